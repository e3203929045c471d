use Rattle.std.proofs.Common.{◌≡◌, ℕ, List, length, ap, subst, sym, ◌∙◌}
use Rattle.dl_lists.specs.Entries.{EntryLists}
use Rattle.dl_lists.specs.declared.entries.Form.{Form}
use Rattle.dl_lists.specs.declared.entries.Form.TheVariants.{Same}
use Rattle.dl_lists.specs.KeptEntries.{entries_of}
use Rattle.dl_lists.specs.KeptEntries.{AreColumns, IsKeptEntries}
use Rattle.std.specs.List.{range_with_len}
use Rattle.std.proofs.lemmas.List.FromFn.{length-range_with_len}
use Rattle.dl_lists.proofs.EntryLemmas.{columns_same}
use Rattle.dl_lists.proofs.entries.Entries.part.Goals as goal
use Rattle.dl_lists.proofs.entries.Entries.part.Goals.{in-Apart-1, in-Same-1}

pub invariant_of-self-in_ok-entries-2 : goal.invariant_of-self-in_ok-entries-2
invariant_of-self-in_ok-entries-2 c =
    subst (λ (l : List ℕ). AreColumns l c.in_ok-entries.entries.items) (sym c.in_ok-lasts.ensures)
    (subst (λ (l : List ℕ). AreColumns (range_with_len 0 c.in-Same.len) l) (sym c.in_ok-entries.ensures)
    (columns_same c.in-Same.len (subst (λ (f : Form). IsKeptEntries f) c.in-Same.is c.self.invariant)))

pub returns-in_ok-entries-clause-count : goal.returns-in_ok-entries-clause-count
returns-in_ok-entries-clause-count c =
    let is : entries_of (Same c.in-Same.len) ≡ c.args.self.now = ap entries_of (sym c.in-Same.is) ∙ c.self.view_is in
    let long : length c.in_ok-lasts.lasts.items ≡ c.args.self.now.count =
    ap (λ (l : List ℕ). length l) c.in_ok-lasts.ensures ∙ length-range_with_len 0 c.in-Same.len ∙ ap (λ (v : EntryLists). v.count) is in
    elim c.match-self-2.branch [
      | in-Apart-1 w ↦ ap (λ (v : EntryLists). v.count) w.self-is ∙ long
      | in-Same-1 w ↦ ap (λ (v : EntryLists). v.count) w.self-is ∙ long
    ]
