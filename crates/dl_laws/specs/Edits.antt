-- Each edit is accepted, or refused for one cause.
use Rattle.std.specs.Prelude.{◌≡◌, ◌⊎◌}
use Rattle.dl_theory.specs.declared.edit.Edit.{Edit}
use Rattle.dl_theory.specs.declared.edit.EditRefusal.{EditRefusal}
use Rattle.dl_theory.specs.declared.edit.EditRefusal.TheVariants.{Cycle}
use Rattle.dl_theory.specs.Lists.{TheoryLists}
use Rattle.dl_theory.specs.Edits.{IsAccepted, IsRefused}

-- equal refusals, or two of a cycle, which may show different paths
abbrev pub IsOneCause : EditRefusal → EditRefusal → Type 0
IsOneCause (Cycle path) (Cycle other) = Unit {0}
IsOneCause x y = x ≡ y

pub record EditsAreDecided (T : TheoryLists) : Type 0 where
  pub decided : (e : Edit) → IsAccepted T e ⊎ ((x : EditRefusal) × IsRefused T e x)
  pub never_both : (e : Edit) (x : EditRefusal) → IsAccepted T e → IsRefused T e x → ⊥
  pub one_cause : (e : Edit) (x y : EditRefusal) → IsRefused T e x → IsRefused T e y → IsOneCause x y
