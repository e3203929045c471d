use Rattle.std.proofs.Common.{true, length, replicate, List, sym, ap, subst, ◌∙◌}
use Rattle.dl_pages.specs.Paged.{PagedItems, OwnsNothing}
use Rattle.dl_pages.specs.KeptTable.{table_of}
use Rattle.dl_pages.proofs.TableLemmas.{flat_empty}
use Rattle.dl_pages.proofs.table.Table.share.Goals as goal

pub returns-in-Flat-clause-items : goal.returns-in-Flat-clause-items
returns-in-Flat-clause-items g c =
    let view = ap table_of (sym c.in-Flat.is) ∙ c.self.view_is in
    let empty = flat_empty c.in-Flat.items.items (subst OwnsNothing (sym view) c.requires) in
    c.make.ensures.items ∙ sym empty ∙ ap (λ (p : PagedItems _). p.items) view

pub returns-in-Flat-clause-owned : goal.returns-in-Flat-clause-owned
returns-in-Flat-clause-owned g c =
    let view = ap table_of (sym c.in-Flat.is) ∙ c.self.view_is in
    let empty = flat_empty c.in-Flat.items.items (subst OwnsNothing (sym view) c.requires) in
    c.make.ensures.owned ∙ sym (ap (λ (xs : List _). replicate (length xs) true) empty) ∙ ap (λ (p : PagedItems _). p.owned) view
