use Rattle.std.proofs.Common.{◌≡◌, length, get_or, ap, sym, ◌∙◌, arith}
use Rattle.dl_lists.specs.Entries.{EntryLists}
use Rattle.dl_lists.specs.declared.entries.Form.TheVariants.{Same}
use Rattle.dl_lists.specs.KeptEntries.{entries_of}
use Rattle.std.proofs.lemmas.List.FromFn.{length-range_with_len}
use Rattle.dl_lists.proofs.EntryLemmas.{range_get}
use Rattle.dl_lists.proofs.entries.Entries.entry.Goals as goal

pub returns-in-Same : goal.returns-in-Same
returns-in-Same c =
    let is : entries_of (Same c.in-Same.field-0) ≡ c.args.self.now = ap entries_of (sym c.in-Same.is) ∙ c.self.view_is in
    sym (range_get c.in-Same.field-0 c.args.number
    (omega (arith, c.requires, length-range_with_len 0 c.in-Same.field-0, ap (λ (v : EntryLists). length v.entries) is)))
    ∙ ap (λ (v : EntryLists). get_or v.entries c.args.number 0) is
