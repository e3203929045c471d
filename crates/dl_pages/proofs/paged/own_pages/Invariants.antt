use Rattle.std.proofs.Common.{◌≡◌, ℕ, ◌<◌, ◌≤◌, true, false, get_or}
use Rattle.dl_pages.specs.Pages.{flags, KeepsPages, AreNested}
use Rattle.dl_pages.proofs.paged.own_pages.Given as goal

abbrev pub invariant-loop-number : goal.invariant-loop-number
invariant-loop-number g l = record {
  kept : KeepsPages l.initial.pages.items l.pages.items;
  nested : AreNested l.pages.items l.pages.owned;
  within : l.number ≤ l.wanted;
  owned : (k : ℕ) → l.number ≤ k → k < l.wanted → get_or (flags l.pages.items) k true ≡ true;
  below : (k : ℕ) → k < l.number → get_or (flags l.pages.items) k false ≡ get_or (flags l.initial.pages.items) k false;
}

abbrev pub decreases-loop-number : goal.decreases-loop-number
decreases-loop-number g l = l.number
