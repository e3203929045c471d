use Rattle.std.proofs.Common.{◌<◌, length, arith, sym, ◌∙◌}
use Rattle.std.proofs.lemmas.Option.{slice_get_within, get_or_from_slice_get}
use Rattle.std.proofs.lemmas.List.Elements.{All-contains}
use Rattle.dl_graph.specs.Numbers.{heads}
use Rattle.dl_derive.specs.Back.{Is, FromRow}
use Rattle.dl_derive.proofs.Gaining.{front_starts, front_goes, front_ends, none_past}
use Rattle.dl_derive.proofs.part.put_all_heads.Goals as goal

pub loop-at-init : goal.loop-at-init
loop-at-init c = record { gains = front_starts (λ q. FromRow Is (heads c.args.net.now q)) c.args.found.now.members c.args.rules.now }

pub put_heads-requires-clause-number : goal.put_heads-requires-clause-number
put_heads-requires-clause-number c =
    let e = sym c.at.ensures.member ∙ c.in-Some.is in
    All-contains (λ n. n < length c.args.net.now.names) c.args.found.now.members c.in-Some.number c.requires.found
    (c.loop-at.at, slice_get_within c.args.found.now.members c.loop-at.at c.in-Some.number e, get_or_from_slice_get c.args.found.now.members c.loop-at.at c.in-Some.number c.in-Some.number e)

pub put_heads-requires-clause-bound : goal.put_heads-requires-clause-bound
put_heads-requires-clause-bound c = c.loop-at.invariant.gains.bound ∙ c.requires.bound

pub loop-at-preserved : goal.loop-at-preserved
loop-at-preserved c = record {
  gains =
      front_goes (λ q. FromRow Is (heads c.args.net.now q)) c.args.found.now.members c.loop-at.at c.in-Some.number
      c.args.rules.now c.loop-at.rules c.put_heads.new.rules (sym c.at.ensures.member ∙ c.in-Some.is) c.loop-at.invariant.gains
      c.in_ok-put_heads-in-Some.ensures;
}

pub returns : goal.returns
returns c =
    front_ends (λ q. FromRow Is (heads c.args.net.now q)) c.args.found.now.members c.loop-at.at c.args.rules.now c.loop-at.rules
    (omega (arith, c.len-at-end.ensures.len, c.loop-at-test.false)) c.loop-at.invariant.gains

pub returns-in-None : goal.returns-in-None
returns-in-None c =
    front_ends (λ q. FromRow Is (heads c.args.net.now q)) c.args.found.now.members c.loop-at.at c.args.rules.now c.loop-at.rules
    (none_past c.args.found.now.members c.loop-at.at (sym c.at.ensures.member ∙ c.in-None.is)) c.loop-at.invariant.gains
