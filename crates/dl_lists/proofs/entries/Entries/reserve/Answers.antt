use Rattle.std.proofs.Common.{◌≡◌, ℕ, ◌<◌, List, length, ap, subst, sym, ◌∙◌, arith}
use Rattle.dl_lists.specs.Entries.{EntryLists}
use Rattle.dl_lists.specs.declared.entries.Form.{Form}
use Rattle.dl_lists.specs.declared.entries.Form.TheVariants.{Same, Apart}
use Rattle.dl_lists.specs.declared.entries.Entries.TheInside.{Inside}
use Rattle.dl_lists.specs.KeptEntries.{entries_of}
use Rattle.std.proofs.lemmas.List.FromFn.{length-range_with_len}
use Rattle.dl_lists.proofs.entries.Entries.reserve.Goals as goal
use Rattle.dl_lists.proofs.entries.Entries.reserve.Goals.{in-Same, in-Apart+in_ok-reserve-in-Apart+in_ok-reserve-in-Apart-2}

pub returns-clause-room : goal.returns-clause-room
returns-clause-room c =
    elim c.match-self.branch [
      | in-Same w ↦
          let is : entries_of (Same w.in-Same.field-0) ≡ c.args.self.now = ap entries_of (sym w.in-Same.is) ∙ c.self.view_is in
          subst (λ (i : Inside). 0 < (entries_of i.form).spare) (sym w.self-inside-is)
          (omega (arith, c.if-len-ge-EMPTY.false, c.len.ensures, ap (λ (v : EntryLists). length v.entries) is, length-range_with_len 0 w.in-Same.field-0, ap (λ (f : Form). (entries_of f).spare) w.in-Same.is))
      | in-Apart+in_ok-reserve-in-Apart+in_ok-reserve-in-Apart-2 w ↦
          let is : entries_of (Apart w.in-Apart.columns) ≡ c.args.self.now = ap entries_of (sym w.in-Apart.is) ∙ c.self.view_is in
          subst (λ (i : Inside). 0 < (entries_of i.form).spare) (sym w.self-inside-is)
          (omega (
            arith,
            w.in_ok-reserve-in-Apart.ensures.room,
            w.in_ok-reserve-in-Apart-2.ensures.room,
            ap (λ (l : List ℕ). length l) w.in_ok-reserve-in-Apart-2.ensures.items,
            c.if-len-ge-EMPTY.false,
            c.len.ensures,
            ap (λ (v : EntryLists). length v.entries) is,
          ))
    ]
