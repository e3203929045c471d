-- How many steps an edit of a draft may make.
use Rattle.std.specs.Prelude.{ℕ, ◌+◌, ◌*◌, ◌≤◌, List, length, All, Contains}
use Rattle.dl_base.specs.Paths.{IsDistinct}
use Rattle.dl_lit.specs.declared.literal.Literal.{Literal}
use Rattle.dl_theory.specs.declared.edit.Edit.{Edit}
use Rattle.dl_theory.specs.Lists.{TheoryLists}
use Rattle.dl_theory.specs.Cones.{Cone}
use Rattle.dl_net.specs.Edited.{edit_literals}
use Rattle.dl_update.specs.Drafts.{IsNew}

-- xs has exactly the values with P, each once
pub record IsOnce {A : Type 0} (P : A → Type 0) (xs : List A) : Type 0 where
  pub distinct : IsDistinct xs
  pub sound : All P xs
  pub complete : (x : A) → P x → Contains xs x

-- however the literals of an edit are listed that are new, there are at most eight steps for one
abbrev pub IsWithinNew : List Literal → Edit → ℕ → ℕ → Type 0
IsWithinNew names e before after = (fresh : List Literal) → IsOnce (IsNew names (edit_literals e)) fresh → after ≤ before + 8 * length fresh

-- however the literals of the cone of an edit are listed, and those of the edit that are new, there are at most sixteen steps for one of the
-- first and eight for one of the second
abbrev pub IsWithinCone : TheoryLists → List Literal → Edit → ℕ → ℕ → Type 0
IsWithinCone T names e before after =
    (cone fresh : List Literal) → IsOnce (Cone T e) cone → IsOnce (IsNew names (edit_literals e)) fresh
    → after ≤ before + 16 * length cone + 8 * length fresh
