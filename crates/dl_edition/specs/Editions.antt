-- Editions as callers see them.
use Rattle.std.specs.Prelude.{ℕ, ◌+◌, length}
use Rattle.dl_theory.specs.Lists.{TheoryLists}

-- a published theory and the number that it was published under
pub record EditionLists : Type 0 where
  pub number : ℕ
  pub theory : TheoryLists

-- how many facts, rules and pairs there are: each stands on a line of its own in the text of the theory
abbrev pub line_count : TheoryLists → ℕ
line_count T = length T.facts + length T.rules + length T.pairs
