use Rattle.std.proofs.Common.{List, ℕ, refl, sym, subst, ◌∙◌}
use Rattle.dl_theory.specs.Edits.{HasLabel}
use Rattle.dl_net.specs.Kept.{lists_of, theory_in}
use Rattle.dl_net.proofs.EditLemmas.{order_same}
use Rattle.dl_net.proofs.PairTables.{keeps_pairs}
use Rattle.dl_net.proofs.RuleLemmas.{has_label}
use Rattle.dl_net.proofs.tables.Tables.prepare_rule_drop.Goals as goal

pub returns-in_ok-prepare_drop_rule-in-Some-clause-answered : goal.returns-in_ok-prepare_drop_rule-in-Some-clause-answered
returns-in_ok-prepare_drop_rule-in-Some-clause-answered c =
    subst (λ (l : List ℕ). HasLabel (theory_in c.args.self.now) l) c.in-Some.ensures.label
    (has_label (lists_of c.args.self.now) c.requires.kept.tables c.in-Some.number c.in-Some.ensures.there)

pub returns-in_err-reserve_take-in-Some-clause-keeps : goal.returns-in_err-reserve_take-in-Some-clause-keeps
returns-in_err-reserve_take-in-Some-clause-keeps c =
    keeps_pairs c.args.self.now c.args.self.now.pairs c.reserve_take.new.self c.args.self.now.order c.requires.kept refl c.reserve_take.ensures.kept
    c.requires.kept.order

pub returns-in_err-prepare_drop_rule-in-Some-clause-keeps : goal.returns-in_err-prepare_drop_rule-in-Some-clause-keeps
returns-in_err-prepare_drop_rule-in-Some-clause-keeps c =
    keeps_pairs c.args.self.now c.prepare_drop_rule.new.self c.reserve_take.new.self c.args.self.now.order c.requires.kept c.prepare_drop_rule.ensures.items
    c.reserve_take.ensures.kept
    (order_same c.args.self.now.order c.args.self.now.order c.args.self.now.pairs.items c.prepare_drop_rule.new.self.items c.args.self.now.pairs.ready
    c.prepare_drop_rule.new.self.ready refl c.prepare_drop_rule.ensures.items (c.prepare_drop_rule.ensures.ready ∙ sym c.requires.settled.pair) c.requires.kept.order)

pub returns-in_ok-prepare_drop_rule-in-Some-clause-keeps : goal.returns-in_ok-prepare_drop_rule-in-Some-clause-keeps
returns-in_ok-prepare_drop_rule-in-Some-clause-keeps c =
    keeps_pairs c.args.self.now c.prepare_drop_rule.new.self c.reserve_take.new.self c.args.self.now.order c.requires.kept c.prepare_drop_rule.ensures.items
    c.reserve_take.ensures.kept
    (order_same c.args.self.now.order c.args.self.now.order c.args.self.now.pairs.items c.prepare_drop_rule.new.self.items c.args.self.now.pairs.ready
    c.prepare_drop_rule.new.self.ready refl c.prepare_drop_rule.ensures.items (c.prepare_drop_rule.ensures.ready ∙ sym c.requires.settled.pair) c.requires.kept.order)
