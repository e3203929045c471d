use Rattle.std.proofs.Common.{◌≡◌, ℕ, List, [], ◌∷◌, ◌++◌, length, set, rules, ap, ◌∙◌}
use Rattle.std.proofs.lemmas.List.{ext_get_or}
use Rattle.dl_rows.specs.Tables.{RowLists, KeepsLists, list_at}
use Rattle.dl_rows.proofs.open_rows.OpenRowsLists.append.Goals as goal

same_kept : (t t' : RowLists) → KeepsLists t t' → length t'.lists ≡ length t.lists → t'.lists ≡ t.lists
same_kept t t' kept long = ext_get_or [] t'.lists t.lists long (λ i _. kept.lists i)

pub returns-in_err-reserve-clause-kept : goal.returns-in_err-reserve-clause-kept
returns-in_err-reserve-clause-kept c =
    let same : c.reserve.new.self.lists ≡ c.args.self.now.lists = same_kept c.args.self.now c.reserve.new.self c.reserve.ensures.kept c.reserve.ensures.same in
    search (rules, same)

pub returns-clause-lists : goal.returns-clause-lists
returns-clause-lists c =
    c.push.ensures.lists
    ∙ ap (λ (ls : List (List ℕ)). set ls c.args.number (list_at (record { lists = ls; spare = [] }) c.args.number ++ c.args.item ∷ []))
    (same_kept c.args.self.now c.reserve.new.self c.reserve.ensures.kept c.reserve.ensures.same)
