use Rattle.std.proofs.Common.{◌≡◌, ℕ, true, length, take}
use Rattle.std.specs.Prelude.{Contains}
use Rattle.dl_rows.specs.Region.{has}
use Rattle.dl_rows.proofs.region.wipe.Given as goal

abbrev pub invariant-loop-number : goal.invariant-loop-number
invariant-loop-number l =
    (length l.words.items ≡ length l.initial.words.items)
    × ((n : ℕ) → has l.words.items n ≡ true → (has l.initial.words.items n ≡ true) × (¬ Contains (take l.number-index l.numbers) n))
