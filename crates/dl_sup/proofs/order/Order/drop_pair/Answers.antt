use Rattle.std.proofs.Common.{List, sym, subst, ◌∙◌, true≢false, rules}
use Rattle.std.specs.Prelude.{not}
use Rattle.dl_sup.specs.declared.link.Link.{Link}
use Rattle.dl_sup.specs.Links.{IsOrder, same_link, link}
use Rattle.dl_sup.proofs.Links.{IsOrder-filter}
use Rattle.dl_sup.proofs.Slots.{none_same}
use Rattle.dl_sup.proofs.order.Order.drop_pair.Goals as goal

pub returns-then-not-drop_pair-clause-kept : goal.returns-then-not-drop_pair-clause-kept
returns-then-not-drop_pair-clause-kept c =
    c.drop_pair.ensures.dropped
    ∙ none_same c.self.inside.table (link c.args.upper c.args.lower)
    (λ m. true≢false (sym (c.drop_pair.ensures.there.1 m) ∙ search rules))
    ∙ c.self.view_is

pub invariant_of-self : goal.invariant_of-self
invariant_of-self c =
    subst (λ (ps : List Link). IsOrder ps) (sym c.drop_pair.ensures.dropped)
    (IsOrder-filter (λ q. not (same_link q (link c.args.upper c.args.lower))) c.self.inside.table c.self.invariant)

pub invariant_of-self-2 : goal.invariant_of-self-2
invariant_of-self-2 c =
    subst (λ (ps : List Link). IsOrder ps) (sym c.drop_pair.ensures.dropped)
    (IsOrder-filter (λ q. not (same_link q (link c.args.upper c.args.lower))) c.self.inside.table c.self.invariant)
