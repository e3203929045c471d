use Rattle.std.proofs.Common.{◌≡◌, take}
use Rattle.dl_pages.proofs.pages.Pages.share.Given as goal

abbrev pub invariant-loop-number : goal.invariant-loop-number
invariant-loop-number g l = l.pages.items ≡ take l.number l.self-inside.pages.items
