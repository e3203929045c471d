-- Literals by the numbers of their facts.
use Rattle.std.specs.Prelude.{ℕ, Option, List}

-- the literal of each number that has a fact; the literal for whose fact there is memory; and the literal whose fact may go
pub record FactLists : Type 0 where
  pub items : List (Option ℕ)
  pub ready : Option ℕ
  pub leaving : Option ℕ
