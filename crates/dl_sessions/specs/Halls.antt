-- Halls as callers see them, and what a hall keeps.
use Rattle.std.specs.Prelude.{◌≡◌, ℕ, ◌+◌, List, [], ◌∷◌, length, Some, None}
use Rattle.atomic_table.specs.Seated.{TableId}
use Rattle.dl_theory.specs.Lists.{TheoryLists}
use Rattle.dl_desk.specs.Offices.{SeatLists}
use Rattle.dl_sessions.specs.Served.{enrolment}

-- the theory that the history begins from, and how many sessions are to come
pub record HallView : Type 0 where
  pub start : TheoryLists
  pub seats : ℕ

-- the base of a desk: no number, and nothing joined yet
pub record IsBase (desk : TableId) (seat : SeatLists) : Type 0 where
  pub place : seat.place ≡ desk
  pub number : seat.number ≡ None
  pub olds : seat.olds ≡ []
  pub within : seat.out ≡ None

-- a seat of a desk that has the number k, and made no call since it was enrolled
pub record IsEnrolled (desk : TableId) (T : TheoryLists) (k : ℕ) (seat : SeatLists) : Type 0 where
  pub place : seat.place ≡ desk
  pub start : seat.start ≡ T
  pub number : seat.number ≡ Some k
  pub mine : seat.mine ≡ enrolment k ∷ []
  pub olds : seat.olds ≡ []
  pub within : seat.out ≡ None

-- seats of a desk that have the numbers from k on, in order
abbrev pub AreEnrolled : TableId → TheoryLists → ℕ → List SeatLists → Type 0
AreEnrolled desk T k [] = Unit {0}
AreEnrolled desk T k (seat ∷ more) = IsEnrolled desk T k seat × AreEnrolled desk T (k + 1) more

-- the base, the enrolled seats, and the whole share, whose amount is how many there are
pub record IsReady (desk : TableId) (base : SeatLists) (seats : List SeatLists) (amount : ℕ) : Type 0 where
  pub is_base : IsBase desk base
  pub enrolled : AreEnrolled desk base.start 0 seats
  pub counted : amount ≡ length seats
