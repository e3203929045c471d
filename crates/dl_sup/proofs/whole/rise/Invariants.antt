use Rattle.std.proofs.Common.{ℕ, ◌<◌, get_or}
use Rattle.dl_sup.specs.Whole.{link_at}
use Rattle.dl_sup.proofs.whole.rise.Given as goal

abbrev pub invariant-loop-link : goal.invariant-loop-link
invariant-loop-link l =
    (t : ℕ) → t < l.link-index → get_or l.ranks (link_at l.links t).upper 0 < get_or l.ranks (link_at l.links t).lower 0
