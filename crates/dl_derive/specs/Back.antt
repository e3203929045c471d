-- The numbers of the literals that matter for one.
use Rattle.std.specs.Prelude.{◌≡◌, ◌⊎◌, ◌↔◌, ℕ, ◌<◌, List, ◌++◌, length, All, Contains}
use Rattle.dl_theory.specs.Verdicts.{Back}
use Rattle.dl_graph.specs.Region.{Numbers}
use Rattle.dl_graph.specs.Numbers.{NetLists, attackers_row, heads, back, literal_at}
use Rattle.dl_graph.specs.declared.link.Link.TheVariants.{Uses}

abbrev pub Is : ℕ → ℕ → Type 0
Is x n = n ≡ x

-- n belongs to some number of a row
abbrev pub FromRow : (ℕ → ℕ → Type 0) → List ℕ → ℕ → Type 0
FromRow Q row n = (x : ℕ) × Contains row x × Q x n

-- the numbers with X have come behind those that were there, and no others
pub record Gains (X : ℕ → Type 0) (old new : Numbers) : Type 0 where
  pub bound : new.bound ≡ old.bound
  pub more : List ℕ
  pub behind : new.members ≡ old.members ++ more
  pub sound : All X more
  pub complete : (n : ℕ) → X n → Contains new.members n

-- n attacks q, or is in the body of a rule for q
abbrev pub RestsAt : NetLists → ℕ → ℕ → Type 0
RestsAt N q n = FromRow Is (attackers_row N (literal_at N q)) n ⊎ FromRow (λ r. FromRow Is (back N Uses r)) (heads N q) n

-- the members are the numbers of the literals that matter for q
pub record IsBack (N : NetLists) (q : ℕ) (r : Numbers) : Type 0 where
  pub bound : r.bound ≡ length N.names
  pub members : (n : ℕ) → Contains r.members n ↔ ((n < length N.names) × Back N.theory (literal_at N q) (literal_at N n))
