-- Marks that are right in some families.
use Rattle.std.specs.Prelude.{◌≤◌, List, length}
use Rattle.dl_lit.specs.declared.literal.Literal.{Literal}
use Rattle.dl_theory.specs.Lists.{TheoryLists}
use Rattle.dl_theory.specs.Marks.{AreRight, IsFamilyRight}
use Rattle.dl_marks.specs.Marks.{Marking, places}
use Rattle.dl_fill.specs.Filled.{stands}
use Rattle.dl_update.specs.declared.families.Families.{Families}
use Rattle.dl_update.specs.declared.families.Families.TheVariants.{All, One}

-- there is a place for each name, and the marks of these families are right
abbrev pub AreRightIn : Families → TheoryLists → List Literal → Marking → Type 0
AreRightIn All T names m = AreRight T names (places m) (stands m)
AreRightIn (One f) T names m = (length names ≤ places m) × IsFamilyRight T names (places m) (stands m) f
