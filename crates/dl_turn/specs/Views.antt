-- What contracts see of a seat, and what a seat may give back.
use Rattle.std.specs.Prelude.{◌≡◌, ◌⊎◌, ℕ, ◌+◌, List, [], ◌∷◌, ◌++◌, Option, Some, None}
use Rattle.atomic_table.specs.Seated.{TableId}

pub record SeatView (L S : Type 0) : Type 0 where
  -- the turnstile that the seat belongs to, by its place
  pub place : TableId
  -- what the history begins from
  pub start : S
  -- the number of the lines that the seat makes, once it has made one
  pub number : Option ℕ
  -- a beginning of the history
  pub seen : List L
  -- the lines of the seat's number
  pub mine : List L
  -- the numbers of the seats that were joined into this one, each with its lines
  pub olds : List (ℕ × List L)
  -- while the board is out with the seat: the history and the count that it took
  pub out : Option (List L × ℕ)

-- a number with its lines, in front of others
abbrev pub with_own : {L : Type 0} → Option ℕ → List L → List (ℕ × List L) → List (ℕ × List L)
with_own None mine olds = olds
with_own (Some k) mine olds = (k, mine) ∷ olds

module _ {L S : Type 0} where
  -- a seat with no number, which has seen these lines
  abbrev pub new_seat : TableId → S → List L → SeatView L S
  new_seat place start seen = record { place = place; start = start; number = None; seen = seen; mine = []; olds = []; out = None }

  -- the same seat, with the board out at this history and count
  abbrev pub with_board : SeatView L S → List L → ℕ → SeatView L S
  with_board v history count = record v { out = Some (history, count) }

  -- the numbers of a seat, its own and those that it joined, each with its lines
  abbrev pub numbers_of : SeatView L S → List (ℕ × List L)
  numbers_of v = with_own v.number v.mine v.olds

-- what a seat that took this history and count, and has this number, may give back
module _ {L : Type 0} (number : L → ℕ) (out : Option (List L × ℕ)) (n : Option ℕ) (history : List L) (count : ℕ) where
  -- what was taken
  abbrev pub IsAsTaken : Type 0
  IsAsTaken = out ≡ Some (history, count)

  -- one more line, of the seat's number
  abbrev pub HasOwnLine : Type 0
  HasOwnLine = (before : List L) × (l : L) × (out ≡ Some (before, count)) × (history ≡ before ++ l ∷ []) × (n ≡ Some (number l))

  -- from a seat with no number, one more line of the next number, which is then the seat's
  abbrev pub HasFirstLine : Type 0
  HasFirstLine = (before : List L) × (l : L) × (out ≡ Some (before, number l)) × (history ≡ before ++ l ∷ []) × (n ≡ None) × (count ≡ number l + 1)

  abbrev pub MayGive : Type 0
  MayGive = IsAsTaken ⊎ (HasOwnLine ⊎ HasFirstLine)
