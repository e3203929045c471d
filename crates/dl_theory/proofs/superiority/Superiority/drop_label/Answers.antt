use Rattle.std.proofs.Common.{◌≡◌, List, sym, subst}
use Rattle.std.specs.Prelude.{filter, not, ◌||◌}
use Rattle.std.specs.Str.{bytes_eq}
use Rattle.dl_sup.specs.declared.link.Link.{Link}
use Rattle.dl_theory.specs.declared.rule.Pair.{Pair}
use Rattle.dl_theory.specs.Pairs.{IsNumbered}
use Rattle.dl_theory.proofs.Numbers.{numbered_without_label, all_without_label}
use Rattle.dl_theory.proofs.superiority.Superiority.drop_label.Goals as goal

pub invariant_of-self : goal.invariant_of-self
invariant_of-self c =
    let left : List Pair = filter (λ p. not (bytes_eq p.upper c.args.label.now || bytes_eq p.lower c.args.label.now)) c.self.inside.pairs.items in
    subst (λ (ps : List Pair). IsNumbered c.self.inside.items.keys c.drop_naming.new.order ps) (sym c.drop_naming.ensures.pairs)
    (subst (λ (ls : List Link). IsNumbered c.self.inside.items.keys ls left) (sym c.drop_naming.ensures.links)
    (numbered_without_label c.self.inside.items.keys c.self.inside.order c.self.inside.pairs.items c.self.invariant
    c.args.label.now c.in-Some.item c.in-Some.ensures.within c.in-Some.ensures.there))

pub returns-in_default : goal.returns-in_default
returns-in_default c =
    sym (subst (λ (ps : List Pair). filter (λ p. not (bytes_eq p.upper c.args.label.now || bytes_eq p.lower c.args.label.now)) ps ≡ ps) c.self.view_is
    (all_without_label c.self.inside.items.keys c.self.inside.order c.self.inside.pairs.items c.self.invariant
    c.args.label.now (c.place_of.ensures.absent c.in_default.is)))
