use Rattle.std.proofs.Common.{◌≡◌, ℕ, List, not, sym, ap, ◌∙◌, rules}
use Rattle.std.specs.Prelude.{◌==◌, filter}
use Rattle.std.proofs.lemmas.Fn.{filter_same}
use Rattle.dl_rows.specs.Tables.{drop_item}
use Rattle.dl_rows.specs.Listed.{Listed}
use Rattle.dl_rows.specs.KeptRow.{row_of}
use Rattle.dl_rows.specs.declared.row.Numbers.{Numbers}
use Rattle.dl_rows.proofs.row.Row.remove.Goals as goal

pub returns-in-Many-clause-items : goal.returns-in-Many-clause-items
returns-in-Many-clause-items c =
    let left : c.retain.new.self.items ≡ filter (λ x. not (x == c.args.item)) c.deref_mut.result.now.items =
    filter_same _ (λ x. not (x == c.args.item)) _ (λ x b f' k. search rules) _ _ c.retain.ensures.filtered in
    let was : c.deref_mut.result.now.items ≡ c.args.self.now.items =
    ap (λ v. v.items) c.deref_mut.ensures.value ∙ ap (λ (n : Numbers). (row_of n).items) (sym c.in-Many.is) ∙ ap (λ (r : Listed ℕ). r.items) c.self.view_is in
    left ∙ ap (λ (xs : List ℕ). drop_item c.args.item xs) was
