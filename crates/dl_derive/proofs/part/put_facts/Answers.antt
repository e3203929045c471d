use Rattle.std.proofs.Common.{◌<◌, length, arith, refl, sym, ◌∙◌}
use Rattle.std.proofs.lemmas.Option.{slice_get_within, get_or_from_slice_get}
use Rattle.std.proofs.lemmas.List.Elements.{All-contains}
use Rattle.dl_derive.proofs.Gaining.{none_past}
use Rattle.dl_derive.proofs.Cutting.{facts_none, facts_more, facts_all, facts_within}
use Rattle.dl_derive.proofs.part.put_facts.Goals as goal

pub loop-at-init : goal.loop-at-init
loop-at-init c = record {
  facts = facts_none c.args.net.now c.args.found.now.members c.args.theory.now.facts c.requires.none;
  rules = refl;
  pairs = refl;
}

pub put_fact-requires-clause-number : goal.put_fact-requires-clause-number
put_fact-requires-clause-number c =
    let e = sym c.at.ensures.member ∙ c.in-Some.is in
    All-contains (λ n. n < length c.args.net.now.names) c.args.found.now.members c.in-Some.number c.requires.found
    (c.loop-at.at, slice_get_within c.args.found.now.members c.loop-at.at c.in-Some.number e, get_or_from_slice_get c.args.found.now.members c.loop-at.at c.in-Some.number c.in-Some.number e)

pub put_fact-requires-clause-within : goal.put_fact-requires-clause-within
put_fact-requires-clause-within c =
    facts_within c.args.net.now c.args.found.now.members c.loop-at.at c.loop-at.theory.facts c.loop-at.invariant.facts

pub loop-at-preserved : goal.loop-at-preserved
loop-at-preserved c = record {
  facts =
      facts_more c.args.net.now c.args.found.now.members c.loop-at.at c.in-Some.number c.loop-at.theory.facts c.put_fact.new.theory.facts
      (sym c.at.ensures.member ∙ c.in-Some.is) c.loop-at.invariant.facts c.in_ok-put_fact-in-Some.ensures.facts;
  rules = c.in_ok-put_fact-in-Some.ensures.rules ∙ c.loop-at.invariant.rules;
  pairs = c.in_ok-put_fact-in-Some.ensures.pairs ∙ c.loop-at.invariant.pairs;
}

pub returns-clause-facts : goal.returns-clause-facts
returns-clause-facts c =
    facts_all c.args.net.now c.args.found.now.members c.loop-at.at c.loop-at.theory.facts
    (omega (arith, c.len-at-end.ensures.len, c.loop-at-test.false)) c.loop-at.invariant.facts

pub returns-in-None-clause-facts : goal.returns-in-None-clause-facts
returns-in-None-clause-facts c =
    facts_all c.args.net.now c.args.found.now.members c.loop-at.at c.loop-at.theory.facts
    (none_past c.args.found.now.members c.loop-at.at (sym c.at.ensures.member ∙ c.in-None.is)) c.loop-at.invariant.facts
