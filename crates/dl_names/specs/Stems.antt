-- Names that end in numbers, and what is known of them.
use Rattle.std.specs.Prelude.{◌≡◌, ◌+◌, ◌-◌, ◌*◌, ◌^◌, ◌≤◌, ℕ, suc, List, [], ◌∷◌, ◌++◌, Some, length, slice_get}
use Rattle.dl_names.specs.declared.stems.Stem.{Stem}
use Rattle.dl_names.specs.declared.stems.Stems.{Stems}

-- the number that digits stand for
abbrev pub decimal : List ℕ → ℕ
decimal [] = 0
decimal (d ∷ ds) = (d - 48) * 10 ^ length ds + decimal ds

abbrev pub AreDigits : List ℕ → Type 0
AreDigits [] = Unit {0}
AreDigits (d ∷ ds) = (48 ≤ d) × (d ≤ 57) × AreDigits ds

-- a stem has a number for a name: one less than what stands at the place that the name's digits tell
pub record IsNoted (s : Stem) (name : List ℕ) (number : ℕ) : Type 0 where
  pub end : List ℕ
  pub whole : name ≡ s.prefix.items ++ end
  pub long : length end ≡ s.digits
  pub are : AreDigits end
  pub there : slice_get s.numbers.items (decimal end) ≡ Some (suc number)

-- one of the stems has it
pub record Knows (s : Stems) (name : List ℕ) (number : ℕ) : Type 0 where
  pub place : ℕ
  pub stem : Stem
  pub kept : slice_get s.stems.items place ≡ Some stem
  pub noted : IsNoted stem name number
