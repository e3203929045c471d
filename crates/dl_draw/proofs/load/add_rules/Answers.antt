use Rattle.std.proofs.Common.{length, map-id, sym, ap, subst, ◌∙◌, rules}
use Rattle.std.proofs.lemmas.Iterator.Consumers.{YieldsList-so_far, YieldsList-turn, YieldsList-end}
use Rattle.std.proofs.lemmas.Iterator.Adapters.{YieldsList-from_vec}
use Rattle.dl_theory.specs.declared.edit.Edit.TheVariants.{AddRule}
use Rattle.dl_theory.specs.Lists.{TheoryLists}
use Rattle.dl_theory.specs.Edits.{IsAccepted, after_edit}
use Rattle.dl_draw.proofs.Accepting.{IsNext, rule_accepted}
use Rattle.dl_draw.proofs.load.add_rules.Goals as goal

pub loop-rule-init : goal.loop-rule-init
loop-rule-init c = ap (λ l. record c.args.theory.now { rules = l }) c.requires.none

pub make-requires : goal.make-requires
make-requires c =
    let loop = c.loop-rule in
    let road = YieldsList-from_vec {s = c.into_iter-rule-iterator.result} c.args.rules.items (search rules) (search rules) in
    let turn = YieldsList-turn road loop.yielded loop.rule-iterator loop.yielded_by c.next.result c.next.new.self c.in-Some.rule c.in-Some.is c.next.ensures.steps in
    let before = sym (map-id loop.yielded) ∙ YieldsList-so_far road loop.yielded loop.rule-iterator loop.yielded_by in
    let next : IsNext c.args.rules.items loop.yielded (length loop.yielded) c.in-Some.rule = record { within = turn.0; before_is = before; here = turn.1 } in
    subst (λ (T : TheoryLists). IsAccepted T (AddRule c.in-Some.rule)) (sym loop.invariant)
    (rule_accepted c.args.theory.now c.args.rules.items loop.yielded (length loop.yielded) c.in-Some.rule c.requires.well_formed next)

pub loop-rule-preserved : goal.loop-rule-preserved
loop-rule-preserved c = c.in_ok-make.ensures ∙ ap (λ T. after_edit T (AddRule c.in-Some.rule)) c.loop-rule.invariant

pub returns : goal.returns
returns c =
    let loop = c.loop-rule in
    let road = YieldsList-from_vec {s = c.into_iter-rule-iterator.result} c.args.rules.items (search rules) (search rules) in
    let end = YieldsList-end road loop.yielded loop.rule-iterator loop.yielded_by c.next.result c.next.new.self c.in-None.is c.next.ensures.steps in
    loop.invariant ∙ ap (λ l. record c.args.theory.now { rules = l }) (sym (map-id loop.yielded) ∙ end.0)
