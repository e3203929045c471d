use Rattle.std.proofs.Common.{◌≡◌, ℕ, ◌-◌, ◌++◌, length, replicate}
use Rattle.dl_pages.specs.Pages.{empty_page}
use Rattle.dl_pages.proofs.pages.append_pages.Given as goal

abbrev pub invariant-loop-pages : goal.invariant-loop-pages
invariant-loop-pages g l = (m : ℕ) × (l.pages.items ≡ l.initial.pages.items ++ replicate m empty_page)

abbrev pub decreases-loop-pages : goal.decreases-loop-pages
decreases-loop-pages g l = l.wanted - length l.pages.items
