-- What a seat keeps beside its pass, and what contracts see of both.
use Rattle.std.specs.Prelude.{◌≡◌, ℕ, List, [], Option, Some}
use Rattle.atomic_table.specs.Seated.{TableId}
use Rattle.crossbeam_queue.specs.Passes.{Pass, view}
use Rattle.dl_turn.specs.Views.{SeatView}
use Rattle.dl_turn.specs.declared.view.PassView.{PassView}
use Rattle.dl_turn.specs.declared.view.Stage.TheVariants.{Seated}

-- the seat may take and give; it keeps its number and, while the board is out with it, the count that it took
pub record IsSeated {B L S : Type 0} (pass : Pass B (PassView L S)) (number : Option ℕ) (enrolled : ℕ) : Type 0 where
  pub free : pass.me.1 ≡ []
  pub seated : (view pass).stage ≡ Seated
  pub number_is : (view pass).number ≡ number
  pub enrolled_is : (b : List L × ℕ) → (view pass).out ≡ Some b → b.1 ≡ enrolled

abbrev pub shown : {L S : Type 0} → TableId → PassView L S → SeatView L S
shown place v = record { place = place; start = v.start; number = v.number; seen = v.seen; mine = v.mine; olds = v.olds; out = v.out }
