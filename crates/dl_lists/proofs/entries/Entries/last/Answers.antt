use Rattle.std.proofs.Common.{◌≡◌, ap, subst, sym, ◌∙◌, arith}
use Rattle.dl_lists.specs.Entries.{EntryLists}
use Rattle.dl_lists.specs.declared.entries.Form.TheVariants.{Same}
use Rattle.dl_lists.specs.KeptEntries.{entries_of}
use Rattle.dl_lists.specs.Last.{IsLast}
use Rattle.dl_lists.proofs.EntryLemmas.{range_last}
use Rattle.dl_lists.proofs.entries.Entries.last.Goals as goal

pub returns-in-Same-clause-there : goal.returns-in-Same-clause-there
returns-in-Same-clause-there c =
    let is : entries_of (Same c.in-Same.field-0) ≡ c.args.self.now = ap entries_of (sym c.in-Same.is) ∙ c.self.view_is in
    subst (λ (v : EntryLists). IsLast v.entries c.args.entry c.args.entry) is
    (range_last c.in-Same.field-0 c.args.entry (omega (arith, c.if-entry-count.false, c.count.ensures, ap (λ (v : EntryLists). v.count) is)))
