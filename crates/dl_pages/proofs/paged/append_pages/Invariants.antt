use Rattle.std.proofs.Common.{◌≡◌, ℕ, ◌-◌, ◌++◌, length, replicate}
use Rattle.dl_pages.specs.Pages.{empty_page, AreNested}
use Rattle.dl_pages.proofs.paged.append_pages.Given as goal

abbrev pub invariant-loop-pages : goal.invariant-loop-pages
invariant-loop-pages g l = record {
  appended : (m : ℕ) × (l.pages.items ≡ l.initial.pages.items ++ replicate m empty_page);
  nested : AreNested l.pages.items l.pages.owned;
}

abbrev pub decreases-loop-pages : goal.decreases-loop-pages
decreases-loop-pages g l = l.wanted - length l.pages.items
