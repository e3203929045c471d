use Rattle.std.proofs.Common.{length, ap, sym, ◌∙◌}
use Rattle.dl_lists.specs.Entries.{EntryLists}
use Rattle.dl_lists.specs.declared.entries.Form.{Form}
use Rattle.dl_lists.specs.KeptEntries.{entries_of}
use Rattle.std.proofs.lemmas.List.FromFn.{length-range_with_len}
use Rattle.dl_lists.proofs.entries.Entries.len.Goals as goal

pub returns-in-Same : goal.returns-in-Same
returns-in-Same c =
    sym (length-range_with_len 0 c.in-Same.len)
    ∙ ap (λ (f : Form). length (entries_of f).entries) (sym c.in-Same.is)
    ∙ ap (λ (v : EntryLists). length v.entries) c.self.view_is
