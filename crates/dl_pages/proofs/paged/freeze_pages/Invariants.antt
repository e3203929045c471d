use Rattle.std.proofs.Common.{◌≡◌, ℕ, ◌-◌, ◌<◌, ◌≤◌, false, get_or, length}
use Rattle.dl_pages.specs.Pages.{parts, flags, AreNested}
use Rattle.dl_pages.specs.Paged.{Owns}
use Rattle.dl_pages.proofs.paged.freeze_pages.Given as goal

abbrev pub invariant-loop-number : goal.invariant-loop-number
invariant-loop-number g l = record {
  items : parts l.pages.items ≡ parts l.initial.pages.items;
  nested : AreNested l.pages.items l.pages.owned;
  within : l.number ≤ length l.pages.items;
  here : l.number < length l.pages.items → Owns l.pages l.number;
  shared : (k : ℕ) → k < l.number → get_or (flags l.pages.items) k false ≡ false;
}

abbrev pub decreases-loop-number : goal.decreases-loop-number
decreases-loop-number g l = length l.pages.items - l.number
