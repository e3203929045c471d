-- A flag and a number, in 32 bits.
use Rattle.std.specs.Prelude.{Bool, false, ℕ, ◌-◌, ◌^◌, ◌==◌, ◌&&◌, cond, not, nat_lt, List, [], ◌∷◌, map, slice_index, slice_index_or, slice_set}

-- flags and numbers, by place
pub record CellLists : Type 0 where
  pub flags : List Bool
  pub numbers : List ℕ

-- the flag is the highest bit of the word
abbrev pub flag_of : ℕ → Bool
flag_of w = not (nat_lt w (2 ^ 31))

-- and the number is what is below it
abbrev pub number_of : ℕ → ℕ
number_of w = cond (flag_of w) (w - 2 ^ 31) w

abbrev pub flags_of : List ℕ → List Bool
flags_of ws = map flag_of ws

abbrev pub numbers_of : List ℕ → List ℕ
numbers_of ws = map number_of ws

-- whether a hit is the last that a place waits for: it has no flag, and comes to 0
abbrev pub comes_down : CellLists → ℕ → Bool
comes_down v place = not (slice_index_or v.flags place false) && (slice_index v.numbers place == 1)

-- after a hit: a place without a flag counts down, and the last hit that it waits for sets its flag
abbrev pub counted_down : CellLists → ℕ → CellLists
counted_down v place =
    cond (slice_index_or v.flags place false) v
    (record { flags = slice_set v.flags place (slice_index v.numbers place == 1); numbers = slice_set v.numbers place (slice_index v.numbers place - 1) })

-- whether each of the places comes down, where they are hit in order
abbrev pub come_down : CellLists → List ℕ → List Bool
come_down v [] = []
come_down v (place ∷ places) = comes_down v place ∷ come_down (counted_down v place) places
