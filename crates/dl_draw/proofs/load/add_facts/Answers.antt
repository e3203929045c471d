use Rattle.std.proofs.Common.{length, map-id, sym, ap, subst, ◌∙◌, rules}
use Rattle.std.proofs.lemmas.Iterator.Consumers.{YieldsList-so_far, YieldsList-turn, YieldsList-end}
use Rattle.std.proofs.lemmas.Iterator.Adapters.{YieldsList-from_vec}
use Rattle.dl_theory.specs.declared.edit.Edit.TheVariants.{AddFact}
use Rattle.dl_theory.specs.Lists.{TheoryLists}
use Rattle.dl_theory.specs.Edits.{IsAccepted, after_edit}
use Rattle.dl_draw.proofs.Accepting.{IsNext, fact_accepted}
use Rattle.dl_draw.proofs.load.add_facts.Goals as goal

pub loop-fact-init : goal.loop-fact-init
loop-fact-init c = ap (λ l. record c.args.theory.now { facts = l }) c.requires.none

pub make-requires : goal.make-requires
make-requires c =
    let loop = c.loop-fact in
    let road = YieldsList-from_vec {s = c.into_iter-fact-iterator.result} c.args.facts.items (search rules) (search rules) in
    let turn = YieldsList-turn road loop.yielded loop.fact-iterator loop.yielded_by c.next.result c.next.new.self c.in-Some.fact c.in-Some.is c.next.ensures.steps in
    let before = sym (map-id loop.yielded) ∙ YieldsList-so_far road loop.yielded loop.fact-iterator loop.yielded_by in
    let next : IsNext c.args.facts.items loop.yielded (length loop.yielded) c.in-Some.fact = record { within = turn.0; before_is = before; here = turn.1 } in
    subst (λ (T : TheoryLists). IsAccepted T (AddFact c.in-Some.fact)) (sym loop.invariant)
    (fact_accepted c.args.theory.now c.args.facts.items loop.yielded (length loop.yielded) c.in-Some.fact c.requires.well_formed next)

pub loop-fact-preserved : goal.loop-fact-preserved
loop-fact-preserved c = c.in_ok-make.ensures ∙ ap (λ T. after_edit T (AddFact c.in-Some.fact)) c.loop-fact.invariant

pub returns : goal.returns
returns c =
    let loop = c.loop-fact in
    let road = YieldsList-from_vec {s = c.into_iter-fact-iterator.result} c.args.facts.items (search rules) (search rules) in
    let end = YieldsList-end road loop.yielded loop.fact-iterator loop.yielded_by c.next.result c.next.new.self c.in-None.is c.next.ensures.steps in
    loop.invariant ∙ ap (λ l. record c.args.theory.now { facts = l }) (sym (map-id loop.yielded) ∙ end.0)
