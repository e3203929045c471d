-- Pairs of numbers.
use Rattle.std.specs.Prelude.{ℕ, Bool, ◌||◌, ◌&&◌, ◌==◌, List, Contains}
use Rattle.dl_sup.specs.declared.link.Link.{Link}
use Rattle.dl_base.specs.Paths.{IsDistinct, HasCycle}

abbrev pub link : ℕ → ℕ → Link
link upper lower = record { upper = upper; lower = lower }

-- the upper number is above the lower one
abbrev pub IsOver : List Link → ℕ → ℕ → Type 0
IsOver pairs upper lower = Contains pairs (link upper lower)

abbrev pub same_link : Link → Link → Bool
same_link p q = p.upper == q.upper && p.lower == q.lower

abbrev pub names_item : ℕ → Link → Bool
names_item item p = p.upper == item || p.lower == item

-- distinct pairs without cycles
pub record IsOrder (pairs : List Link) : Type 0 where
  pub distinct : IsDistinct pairs
  pub acyclic : ¬ HasCycle (IsOver pairs)
