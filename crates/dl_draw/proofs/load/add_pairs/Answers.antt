use Rattle.std.proofs.Common.{length, map-id, sym, ap, subst, ◌∙◌, rules}
use Rattle.std.proofs.lemmas.Iterator.Consumers.{YieldsList-so_far, YieldsList-turn, YieldsList-end}
use Rattle.std.proofs.lemmas.Iterator.Adapters.{YieldsList-from_vec}
use Rattle.dl_theory.specs.declared.edit.Edit.TheVariants.{AddPair}
use Rattle.dl_theory.specs.Lists.{TheoryLists}
use Rattle.dl_theory.specs.Edits.{IsAccepted, after_edit}
use Rattle.dl_draw.proofs.Accepting.{IsNext, pair_accepted}
use Rattle.dl_draw.proofs.load.add_pairs.Goals as goal

pub loop-pair-init : goal.loop-pair-init
loop-pair-init c = ap (λ l. record c.args.theory.now { pairs = l }) c.requires.none

pub make-requires : goal.make-requires
make-requires c =
    let loop = c.loop-pair in
    let road = YieldsList-from_vec {s = c.into_iter-pair-iterator.result} c.args.pairs.items (search rules) (search rules) in
    let turn = YieldsList-turn road loop.yielded loop.pair-iterator loop.yielded_by c.next.result c.next.new.self c.in-Some.pair c.in-Some.is c.next.ensures.steps in
    let before = sym (map-id loop.yielded) ∙ YieldsList-so_far road loop.yielded loop.pair-iterator loop.yielded_by in
    let next : IsNext c.args.pairs.items loop.yielded (length loop.yielded) c.in-Some.pair = record { within = turn.0; before_is = before; here = turn.1 } in
    subst (λ (T : TheoryLists). IsAccepted T (AddPair c.in-Some.pair)) (sym loop.invariant)
    (pair_accepted c.args.theory.now c.args.pairs.items loop.yielded (length loop.yielded) c.in-Some.pair c.requires.well_formed next)

pub loop-pair-preserved : goal.loop-pair-preserved
loop-pair-preserved c = c.in_ok-make.ensures ∙ ap (λ T. after_edit T (AddPair c.in-Some.pair)) c.loop-pair.invariant

pub returns : goal.returns
returns c =
    let loop = c.loop-pair in
    let road = YieldsList-from_vec {s = c.into_iter-pair-iterator.result} c.args.pairs.items (search rules) (search rules) in
    let end = YieldsList-end road loop.yielded loop.pair-iterator loop.yielded_by c.next.result c.next.new.self c.in-None.is c.next.ensures.steps in
    loop.invariant ∙ ap (λ l. record c.args.theory.now { pairs = l }) (sym (map-id loop.yielded) ∙ end.0)
