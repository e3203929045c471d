use Rattle.std.proofs.Common.{◌≡◌, ◌<◌, Some, length, arith, ap, sym, ◌∙◌}
use Rattle.std.specs.Prelude.{slice_get}
use Rattle.std.proofs.lemmas.Option.{slice_get-get_or, get_or_from_slice_get}
use Rattle.dl_theory.specs.Cones.{IsOrAttacks, RaisesTo}
use Rattle.dl_graph.specs.Numbers.{next, rule_at, literal_at}
use Rattle.dl_graph.specs.declared.link.Link.TheVariants.{Uses}
use Rattle.dl_derive.specs.Back.{FromRow}
use Rattle.dl_derive.proofs.Gaining.{front_starts, front_goes, front_ends}
use Rattle.dl_cone.specs.Walked.{IsNumberOf}
use Rattle.dl_cone.proofs.Raising.{gains_same, raising, using_there}
use Rattle.dl_cone.proofs.cone.put_raised.Goals as goal

pub loop-at-init : goal.loop-at-init
loop-at-init c = record {
  gains =
      front_starts (λ r. IsNumberOf c.args.net.now (IsOrAttacks c.args.net.now.theory (rule_at c.args.net.now r).head))
      (next c.args.net.now Uses c.args.number) c.args.region.now;
}

pub put_head-requires-clause-rule : goal.put_head-requires-clause-rule
put_head-requires-clause-rule c =
    let row = next c.args.net.now Uses c.args.number in
    let inside : c.loop-at.at < length row = omega (arith, c.loop-at-test.true, c.next_len-at-end.ensures) in
    let stands : slice_get row c.loop-at.at ≡ Some c.next-rule.result = slice_get-get_or row c.loop-at.at 0 inside ∙ ap Some (sym c.next-rule.ensures) in
    using_there c.args.net.now c.requires.numbered c.args.number c.next-rule.result
    (c.loop-at.at, inside, get_or_from_slice_get row c.loop-at.at c.next-rule.result c.next-rule.result stands)

pub put_head-requires-clause-bound : goal.put_head-requires-clause-bound
put_head-requires-clause-bound c = c.loop-at.invariant.gains.bound ∙ c.requires.bound

pub loop-at-preserved : goal.loop-at-preserved
loop-at-preserved c =
    let row = next c.args.net.now Uses c.args.number in
    let inside : c.loop-at.at < length row = omega (arith, c.loop-at-test.true, c.next_len-at-end.ensures) in
    record {
      gains =
          front_goes (λ r. IsNumberOf c.args.net.now (IsOrAttacks c.args.net.now.theory (rule_at c.args.net.now r).head)) row c.loop-at.at c.next-rule.result
          c.args.region.now c.loop-at.region c.put_head.new.region
          (slice_get-get_or row c.loop-at.at 0 inside ∙ ap Some (sym c.next-rule.ensures)) c.loop-at.invariant.gains c.put_head.ensures;
    }

pub returns : goal.returns
returns c =
    let row = next c.args.net.now Uses c.args.number in
    gains_same (FromRow (λ r. IsNumberOf c.args.net.now (IsOrAttacks c.args.net.now.theory (rule_at c.args.net.now r).head)) row)
    (IsNumberOf c.args.net.now (RaisesTo c.args.net.now.theory (literal_at c.args.net.now c.args.number))) c.args.region.now c.loop-at.region
    (raising c.args.net.now c.requires.numbered c.args.number c.requires.number)
    (front_ends (λ r. IsNumberOf c.args.net.now (IsOrAttacks c.args.net.now.theory (rule_at c.args.net.now r).head)) row c.loop-at.at
    c.args.region.now c.loop-at.region (omega (arith, c.next_len-at-end.ensures, c.loop-at-test.false)) c.loop-at.invariant.gains)
