-- Marks at the places of names, and where they are right. `marked` tells at which places the mark of a tag stands.
use Rattle.std.specs.Prelude.{◌≡◌, ◌↔◌, ℕ, ◌<◌, ◌≤◌, Bool, false, List, length, slice_get, MatchOption}
use Rattle.dl_lit.specs.declared.literal.Literal.{Literal}
use Rattle.dl_lit.specs.declared.literal.Family.{Family}
use Rattle.dl_lit.specs.declared.literal.Tag.{Tag}
use Rattle.dl_lit.specs.Literal.{tagged}
use Rattle.dl_theory.specs.Lists.{TheoryLists}
use Rattle.dl_theory.specs.Derivations.{Follows}

-- at a name the mark stands exactly where the tagged literal follows; past the names, exactly where the tag is a minus tag
abbrev pub IsRightAt : TheoryLists → List Literal → (Tag → ℕ → Type 0) → Tag → ℕ → Type 0
IsRightAt T names marked tag n =
    MatchOption (slice_get names n) (marked tag n ↔ (tag.plus ≡ false)) (λ q. marked tag n ↔ Follows T (tagged tag.plus tag.family q))

-- the marks of a family are right at each place
abbrev pub IsFamilyRight : TheoryLists → List Literal → ℕ → (Tag → ℕ → Type 0) → Family → Type 0
IsFamilyRight T names places marked f =
    (plus : Bool) (n : ℕ) → n < places → IsRightAt T names marked (record { plus = plus; family = f }) n

-- there is a place for each name, and the marks of all families are right
pub record AreRight (T : TheoryLists) (names : List Literal) (places : ℕ) (marked : Tag → ℕ → Type 0) : Type 0 where
  pub room : length names ≤ places
  pub right : (f : Family) → IsFamilyRight T names places marked f
