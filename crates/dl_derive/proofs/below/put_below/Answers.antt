use Rattle.std.proofs.Common.{◌≡◌, ◌<◌, Some, length, arith, ap, sym, subst, ◌∙◌}
use Rattle.std.specs.Prelude.{slice_get}
use Rattle.std.proofs.lemmas.Option.{slice_get-get_or, get_or_from_slice_get}
use Rattle.dl_theory.specs.declared.rule.Pair.{Pair}
use Rattle.dl_graph.specs.Numbers.{next}
use Rattle.dl_graph.specs.declared.link.Link.TheVariants.{Counters}
use Rattle.dl_derive.specs.Part.{Adds, pair_at}
use Rattle.dl_derive.proofs.Cutting.{gathers_none, gathers_more, gathers_all, below_sound}
use Rattle.dl_derive.proofs.below.put_below.Goals as goal

pub loop-at-init : goal.loop-at-init
loop-at-init c = record {
  distinct = c.requires.distinct;
  pairs = gathers_none (pair_at c.args.net.now c.args.rule) (next c.args.net.now Counters c.args.rule) c.args.pairs.now.keys;
}

pub pair_of-requires-clause-lower : goal.pair_of-requires-clause-lower
pair_of-requires-clause-lower c =
    let row = next c.args.net.now Counters c.args.rule in
    let inside : c.loop-at.at < length row = omega (arith, c.loop-at-test.true, c.next_len-at-end.ensures) in
    let stands : slice_get row c.loop-at.at ≡ Some c.next-lower.result =
    slice_get-get_or row c.loop-at.at 0 inside ∙ ap Some (sym c.next-lower.ensures) in
    (below_sound c.args.net.now c.names-names.ensures.numbered c.args.rule c.next-lower.result
    (c.loop-at.at, inside, get_or_from_slice_get row c.loop-at.at c.next-lower.result c.next-lower.result stands)).0

pub loop-at-preserved : goal.loop-at-preserved
loop-at-preserved c =
    let row = next c.args.net.now Counters c.args.rule in
    let inside : c.loop-at.at < length row = omega (arith, c.loop-at-test.true, c.next_len-at-end.ensures) in
    record {
      distinct = c.in_ok-put_pair.ensures.distinct;
      pairs =
          gathers_more (pair_at c.args.net.now c.args.rule) row c.loop-at.at c.next-lower.result
          c.args.pairs.now.keys c.loop-at.pairs.keys c.put_pair.new.pairs.keys
          (slice_get-get_or row c.loop-at.at 0 inside ∙ ap Some (sym c.next-lower.ensures)) c.loop-at.invariant.pairs
          (subst (λ (p : Pair). Adds p c.loop-at.pairs.keys c.put_pair.new.pairs.keys) c.in_ok-pair.ensures c.in_ok-put_pair.ensures.added);
    }

pub returns-clause-pairs : goal.returns-clause-pairs
returns-clause-pairs c =
    gathers_all (pair_at c.args.net.now c.args.rule) (next c.args.net.now Counters c.args.rule) c.loop-at.at c.args.pairs.now.keys c.loop-at.pairs.keys
    (omega (arith, c.next_len-at-end.ensures, c.loop-at-test.false)) c.loop-at.invariant.pairs
