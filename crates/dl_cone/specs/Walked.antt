-- The cone of an edit, by number.
use Rattle.std.specs.Prelude.{◌≡◌, ◌⊎◌, ◌↔◌, ℕ, ◌<◌, length, Contains}
use Rattle.dl_lit.specs.declared.literal.Literal.{Literal}
use Rattle.dl_theory.specs.declared.edit.Edit.{Edit}
use Rattle.dl_theory.specs.Lists.{TheoryLists, attackers}
use Rattle.dl_theory.specs.Cones.{Cone}
use Rattle.dl_graph.specs.Region.{Numbers}
use Rattle.dl_graph.specs.Numbers.{NetLists, literal_at}

-- n is the number of a literal with P
abbrev pub IsNumberOf : NetLists → (Literal → Type 0) → ℕ → Type 0
IsNumberOf N P n = (n < length N.names) × P (literal_at N n)

-- q is one of two literals that attack each other
abbrev pub IsOfRivals : TheoryLists → Literal → Literal → Literal → Type 0
IsOfRivals T p c q = Contains (attackers T p) c × ((q ≡ p) ⊎ (q ≡ c))

-- the members are the numbers of the literals of the cone
pub record IsConeOf (N : NetLists) (e : Edit) (region : Numbers) : Type 0 where
  pub bound : region.bound ≡ length N.names
  pub members : (n : ℕ) → Contains region.members n ↔ IsNumberOf N (Cone N.theory e) n
