-- What a board keeps.
use Rattle.std.specs.Prelude.{◌≡◌, ℕ, ◌+◌, List, [], ◌∷◌}
use Rattle.dl_theory.specs.Lists.{TheoryLists}
use Rattle.dl_edition.specs.Editions.{EditionLists}
use Rattle.dl_calls.specs.Histories.{IsLegal, state_after}
use Rattle.dl_board.specs.Boards.{BoardLists}

-- theories as editions, numbered one after another from n
abbrev pub numbered : ℕ → List TheoryLists → List EditionLists
numbered n [] = []
numbered n (T ∷ more) = record { number = n; theory = T } ∷ numbered (n + 1) more

-- the history is legal, and draft, editions and seats are those of the state after it
pub record IsKept (B : BoardLists) (draft : TheoryLists) (editions : List EditionLists) (total : ℕ) : Type 0 where
  pub legal : IsLegal B.start B.history
  pub draft_is : draft ≡ (state_after B.start B.history).draft
  pub editions_are : editions ≡ numbered 0 (state_after B.start B.history).editions
  pub count_is : B.enrolled ≡ (state_after B.start B.history).count
  pub total_is : total ≡ B.enrolled
