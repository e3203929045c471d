-- Words that are numbers.
use Rattle.std.specs.Prelude.{◌≡◌, ℕ, ◌^◌, ◌<◌, Bool, false, ◌||◌, ◌&&◌, ◌==◌, List, [], ◌∷◌, Option, Some, None, length, nat_lt, decimal}

-- The word is this number in decimal, which has at most 19 digits: no sign, and no leading zero but in `0` itself.
pub record IsNumber (word : List ℕ) (n : ℕ) : Type 0 where
  pub digits : word ≡ decimal n
  pub short : n < 10 ^ 19

-- What a reader of numbers answers: the number that the word is, and it is no other; or none, and the word is none.
abbrev pub ReadsNumber : List ℕ → Option ℕ → Type 0
ReadsNumber word (Some n) = IsNumber word n × ((m : ℕ) → IsNumber word m → m ≡ n)
ReadsNumber word None = (m : ℕ) → IsNumber word m → ⊥

-- a sign, or a `0` that others follow
abbrev pub begins_otherwise : List ℕ → Bool
begins_otherwise [] = false
begins_otherwise (b ∷ rest) = b == 43 || (b == 48 && nat_lt 1 (length (b ∷ rest)))
