-- Editions that are held, in the order of their numbers. Only the code needs these.
use Rattle.std.specs.Prelude.{◌≡◌, ◌≢◌, ℕ, ◌-◌, ◌<◌, ◌≤◌, ◌==◌, List, [], ◌∷◌, length, if◌then◌else◌, slice_index_or, slice_get, Option, Some, None, MatchOption}
use Rattle.std.specs.Vec.{vec_len, vec_capacity}
use Rattle.dl_theory.specs.Lists.{TheoryLists, no_lists}
use Rattle.dl_calls.specs.declared.entry.Entry.{Entry}
use Rattle.dl_edition.specs.Editions.{EditionLists}
use Rattle.dl_edition.specs.Offices.{SeatLists}
use Rattle.dl_session.specs.declared.table.HeldTable.TheInside.{Inside}
use Rattle.dl_session.specs.Replies.{IsHeld}
use Rattle.dl_session.specs.Seats.{editions_of}

-- the editions, and for how many more there is room
pub record TableView : Type 0 where
  pub editions : List EditionLists
  pub room : ℕ

abbrev pub table_of : Inside → TableView
table_of t = record { editions = t.editions.items; room = vec_capacity t.editions - vec_len t.editions }

abbrev pub no_edition : EditionLists
no_edition = record { number = 0; theory = no_lists }

-- the theory of the first edition with this number
abbrev pub theory_in : List EditionLists → ℕ → Option TheoryLists
theory_in [] n = None
theory_in (e ∷ more) n = if e.number == n then Some e.theory else theory_in more n

abbrev pub number_at : List EditionLists → ℕ → ℕ
number_at l i = let edition = slice_index_or l i no_edition in edition.number

-- the numbers rise, so none comes twice
abbrev pub IsRising : List EditionLists → Type 0
IsRising l = (i j : ℕ) → i < j → j < length l → number_at l i < number_at l j

-- the edition at place i has the number
pub record IsAt (l : List EditionLists) (n i : ℕ) : Type 0 where
  pub in_range : i < length l
  pub has_number : number_at l i ≡ n

-- the number would go at place i: smaller numbers before it, and greater ones from it on
pub record IsGapFor (l : List EditionLists) (n i : ℕ) : Type 0 where
  pub in_range : i ≤ length l
  pub smaller_before : (j : ℕ) → j < i → number_at l j < n
  pub greater_after : (j : ℕ) → i ≤ j → j < length l → n < number_at l j

-- new has this edition, and at every other number what old has
pub record Gains (old new : List EditionLists) (edition : EditionLists) : Type 0 where
  pub there : theory_in new edition.number ≡ Some edition.theory
  pub others : (n : ℕ) → n ≢ edition.number → theory_in new n ≡ theory_in old n

-- the table has the editions that are held by these entries, each with its theory in what the seat has seen
abbrev pub Keeps : SeatLists → List Entry → List EditionLists → Type 0
Keeps v entries l =
    (n : ℕ) → MatchOption (theory_in l n) (IsHeld entries n → ⊥) (λ T. IsHeld entries n × (slice_get (editions_of v) n ≡ Some T))
