-- A draft as callers see it, and the literals that an edit is the first to name.
use Rattle.std.specs.Prelude.{Bool, List, Contains, ℕ, ◌≤◌, length}
use Rattle.dl_base.specs.Paths.{IsDistinct}
use Rattle.dl_lit.specs.declared.literal.Literal.{Literal}
use Rattle.dl_theory.specs.Lists.{TheoryLists}
use Rattle.dl_graph.specs.Named.{IsNear, Grows}
use Rattle.dl_update.specs.declared.families.Families.{Families}

-- a theory, its literals by number, the families whose marks are kept, and whether the draft can be shared
pub record DraftLists : Type 0 where
  pub theory : TheoryLists
  pub names : List Literal
  pub families : Families
  pub frozen : Bool

-- a literal of qs, or the complement of one, that is not known
abbrev pub IsNew : List Literal → List Literal → Literal → Type 0
IsNew known qs q = IsNear qs q × ¬ Contains known q

-- the known names and behind them literals of qs and complements of these, none of them twice
abbrev pub GrowsBy : List Literal → List Literal → List Literal → Type 0
GrowsBy qs known names = IsDistinct names × Grows (IsNear qs) known names

-- however names grow by literals of qs, there are no more than so many
abbrev pub IsEnough : List Literal → List Literal → ℕ → Type 0
IsEnough known qs count = (names : List Literal) → GrowsBy qs known names → length names ≤ count
