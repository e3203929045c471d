use Rattle.std.proofs.Common.{◌≡◌, Bool, true, false, List, [], ◌∷◌, ◌++◌, get_or, map, sym, ap, subst, ◌∙◌}
use Rattle.std.proofs.lemmas.List.{get_or_append_left}
use Rattle.dl_pages.proofs.PageLemmas.{true_within}
use Rattle.dl_rows.specs.Tables.{RowLists, KeepsLists}
use Rattle.dl_rows.specs.OpenView.{rooms}
use Rattle.dl_rows.specs.declared.row.Row.{Row}
use Rattle.dl_rows.proofs.TableLemmas.{grown_lists}
use Rattle.dl_rows.proofs.open_rows.OpenRows.grow.Goals as goal

pub returns-clause-kept : goal.returns-clause-kept
returns-clause-kept c =
    let items = c.push.ensures.items ∙ ap (λ (xs : List Row). xs ++ c.make.result ∷ []) c.reserve.ensures.items in
    subst (λ (t : RowLists). KeepsLists t (record { lists = map (λ v. v.items) c.push.new.self.items; spare = rooms c.push.new.self.owned c.push.new.self.items })) c.self.view_is
    (subst (λ (xs : List Row). KeepsLists (record { lists = map (λ v. v.items) c.self.inside.rows.items; spare = rooms c.self.inside.rows.owned c.self.inside.rows.items })
    (record { lists = map (λ v. v.items) xs; spare = rooms c.push.new.self.owned xs })) (sym items)
    (grown_lists c.self.inside.rows.items c.make.result c.self.inside.rows.owned c.push.new.self.owned
    (λ n h.
    let kept : get_or c.reserve.new.self.owned n false ≡ true = c.reserve.ensures.owned n h in
    ap (λ (bs : List Bool). get_or bs n false) c.push.ensures.owned
    ∙ get_or_append_left c.reserve.new.self.owned (true ∷ []) false n (true_within c.reserve.new.self.owned n kept) ∙ kept)
    (ap (λ v. v.items) c.make.ensures)))
