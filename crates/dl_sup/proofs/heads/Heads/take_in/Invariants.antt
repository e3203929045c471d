use Rattle.std.proofs.Common.{◌≡◌, ℕ, length}
use Rattle.dl_sup.specs.HeadLists.{head_of}
use Rattle.dl_sup.proofs.heads.Heads.take_in.Given as goal

abbrev pub invariant-loop-at : goal.invariant-loop-at
invariant-loop-at l = record {
  len : length l.self-inside.near.items ≡ l.at-counter;
  same : (q : ℕ) → head_of (record { near = l.self-inside.near.items; far = l.self-inside.far.entries }) q ≡ head_of l.fn.self q;
}
