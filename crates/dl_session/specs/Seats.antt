-- What a session does to its seat.
use Rattle.std.specs.Prelude.{◌≡◌, List, ◌++◌, None}
use Rattle.dl_theory.specs.Lists.{TheoryLists}
use Rattle.dl_turn.specs.History.{StartsWith}
use Rattle.dl_calls.specs.declared.entry.Entry.{Entry}
use Rattle.dl_calls.specs.Histories.{IsLegal, state_after}
use Rattle.dl_edition.specs.Offices.{SeatLists}

-- the editions of the history that a seat has seen
abbrev pub editions_of : SeatLists → List TheoryLists
editions_of v = (state_after v.start v.seen).editions

-- The seat has these entries more, and has seen no less. What it has seen stays legal, and the editions in it stay the first ones.
pub record Advances (old new : SeatLists) (entries : List Entry) : Type 0 where
  pub place : new.place ≡ old.place
  pub start : new.start ≡ old.start
  pub number : new.number ≡ old.number
  pub olds : new.olds ≡ old.olds
  pub within : new.out ≡ None
  pub seen : StartsWith new.seen old.seen
  pub mine : new.mine ≡ old.mine ++ entries
  pub legal : IsLegal old.start old.seen → IsLegal new.start new.seen
  pub editions : StartsWith (editions_of new) (editions_of old)
