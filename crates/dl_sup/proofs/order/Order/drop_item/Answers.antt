use Rattle.std.proofs.Common.{List, sym, subst}
use Rattle.std.specs.Prelude.{not}
use Rattle.dl_sup.specs.declared.link.Link.{Link}
use Rattle.dl_sup.specs.Links.{IsOrder, names_item}
use Rattle.dl_sup.proofs.Links.{IsOrder-filter}
use Rattle.dl_sup.proofs.order.Order.drop_item.Goals as goal

pub invariant_of-self : goal.invariant_of-self
invariant_of-self c =
    subst (λ (ps : List Link). IsOrder ps) (sym c.drop_item.ensures) (IsOrder-filter (λ p. not (names_item c.args.item p)) c.self.inside.table c.self.invariant)
