use Rattle.std.proofs.Common.{◌≡◌, ℕ, ◌<◌, false, get_or, length}
use Rattle.dl_pages.specs.Pages.{parts, flags}
use Rattle.dl_pages.proofs.pages.freeze_all.Given as goal

abbrev pub invariant-loop-number : goal.invariant-loop-number
invariant-loop-number g l = record {
  count : length l.pages.items ≡ length l.initial.pages.items;
  items : parts l.pages.items ≡ parts l.initial.pages.items;
  shared : (k : ℕ) → k < l.number → get_or (flags l.pages.items) k false ≡ false;
}
