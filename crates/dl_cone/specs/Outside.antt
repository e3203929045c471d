-- What an edit leaves as it is.
use Rattle.std.specs.Prelude.{◌↔◌}
use Rattle.dl_lit.specs.declared.literal.Tagged.{Tagged}
use Rattle.dl_theory.specs.declared.edit.Edit.{Edit}
use Rattle.dl_theory.specs.Lists.{TheoryLists}
use Rattle.dl_theory.specs.Edits.{after_edit, IsAccepted}
use Rattle.dl_theory.specs.Derivations.{Follows}
use Rattle.dl_theory.specs.Cones.{Cone}

-- outside its cone, what follows is the same before an edit that is accepted and after it
abbrev pub StaysOutside : TheoryLists → Edit → Type 0
StaysOutside T e = IsAccepted T e → (x : Tagged) → (¬ Cone T e x.literal) → Follows T x ↔ Follows (after_edit T e) x
