use Rattle.std.proofs.Common.{◌≡◌, ℕ, not, Option, Some, [], get_or, sym, ap, subst, ◌∙◌}
use Rattle.std.specs.Prelude.{filter, option_map, unwrap_or}
use Rattle.dl_sup.specs.Links.{names_item}
use Rattle.dl_rules.specs.Lines.{IsThere}
use Rattle.dl_net.proofs.EditLemmas.{rule_goes}
use Rattle.dl_net.proofs.tables.Tables.drop_rule.Goals as goal

pub unreachable-requires : goal.unreachable-requires
unreachable-requires c = let none = sym c.requires.room.taking ∙ sym c.taking.ensures ∙ c.in-None.is in cc

pub take-requires : goal.take-requires
take-requires c = sym c.taking.ensures ∙ c.in-Some.is

pub drop_rule-requires : goal.drop_rule-requires
drop_rule-requires c =
    let same : c.requires.room.number ≡ c.in-Some.number =
    ap (λ (o : Option ℕ). unwrap_or o c.in-Some.number) (sym c.requires.room.taking ∙ sym c.taking.ensures ∙ c.in-Some.is) in
    c.requires.room.clearing ∙ ap Some same

pub returns-in-Some-order : goal.returns-in-Some-order
returns-in-Some-order c =
    let same : c.requires.room.number ≡ c.in-Some.number =
    ap (λ (o : Option ℕ). unwrap_or o c.in-Some.number) (sym c.requires.room.taking ∙ sym c.taking.ensures ∙ c.in-Some.is) in
    rule_goes c.args.self.now c.requires.kept c.args.label.now c.in-Some.number (subst (λ (n : ℕ). IsThere c.args.self.now.index.lines n) same c.requires.room.there)
    (subst (λ (n : ℕ). get_or c.args.self.now.labels.labels n [] ≡ c.args.label.now) same c.requires.room.label) c.requires.room.settled c.requires.accepted
    c.take.new.self c.take.ensures.lines c.take.ensures.lowers c.take.ensures.uppers c.drop_rule.new.self c.drop_rule.ensures.items c.drop_rule.ensures.ready
    (Some c.drop_item.new.self)
    (ap Some c.drop_item.ensures ∙ sym (ap (option_map (filter (λ p. not (names_item c.in-Some.number p)))) c.in-Some-order.is))

pub returns-in_default : goal.returns-in_default
returns-in_default c =
    let same : c.requires.room.number ≡ c.in-Some.number =
    ap (λ (o : Option ℕ). unwrap_or o c.in-Some.number) (sym c.requires.room.taking ∙ sym c.taking.ensures ∙ c.in-Some.is) in
    rule_goes c.args.self.now c.requires.kept c.args.label.now c.in-Some.number (subst (λ (n : ℕ). IsThere c.args.self.now.index.lines n) same c.requires.room.there)
    (subst (λ (n : ℕ). get_or c.args.self.now.labels.labels n [] ≡ c.args.label.now) same c.requires.room.label) c.requires.room.settled c.requires.accepted
    c.take.new.self c.take.ensures.lines c.take.ensures.lowers c.take.ensures.uppers c.drop_rule.new.self c.drop_rule.ensures.items c.drop_rule.ensures.ready
    c.args.self.now.order
    (c.in_default.is ∙ sym (ap (option_map (filter (λ p. not (names_item c.in-Some.number p)))) c.in_default.is))
