use Rattle.std.proofs.Common.{◌≡◌, ℕ, [], ◌∷◌, ◌++◌, ap, sym, ◌∙◌}
use Rattle.dl_lists.specs.Entries.{EntryLists}
use Rattle.dl_lists.specs.declared.entries.Form.TheVariants.{Same, Apart}
use Rattle.dl_lists.specs.declared.entries.Entries.TheInside.{Inside}
use Rattle.dl_lists.specs.KeptEntries.{entries_of}
use Rattle.dl_lists.proofs.EntryLemmas.{range_more}
use Rattle.dl_lists.proofs.entries.Entries.push_new.Goals as goal
use Rattle.dl_lists.proofs.entries.Entries.push_new.Goals.{in-Same, in-Apart}

pub returns-clause-entries : goal.returns-clause-entries
returns-clause-entries c =
    elim c.match-self.branch [
      | in-Same w ↦
          let is : entries_of (Same w.in-Same.len) ≡ c.args.self.now = ap entries_of (sym w.in-Same.is) ∙ c.self.view_is in
          ap (λ (i : Inside). (entries_of i.form).entries) w.self-inside-is ∙ range_more w.in-Same.len
          ∙ ap (λ (v : EntryLists). v.entries ++ v.count ∷ []) is
      | in-Apart w ↦
          let is : entries_of (Apart w.in-Apart.columns) ≡ c.args.self.now = ap entries_of (sym w.in-Apart.is) ∙ c.self.view_is in
          ap (λ (i : Inside). (entries_of i.form).entries) w.self-inside-is ∙ w.push-in-Apart.ensures.items
          ∙ ap (λ (n : ℕ). w.in-Apart.columns.entries.items ++ n ∷ []) w.len-entry.ensures.items
          ∙ ap (λ (v : EntryLists). v.entries ++ v.count ∷ []) is
    ]
