-- What an edition keeps.
use Rattle.std.specs.Prelude.{◌≡◌, IsTrue}
use Rattle.dl_theory.specs.Lists.{TheoryLists}
use Rattle.dl_theory.specs.Marks.{AreRight}
use Rattle.dl_marks.specs.Marks.{places, IsFrozen}
use Rattle.dl_fill.specs.Filled.{stands}
use Rattle.dl_edition.specs.declared.edition.Edition.TheInside.{Inside}

abbrev pub theory_of : Inside → TheoryLists
theory_of e = e.net.theory

-- nothing can be written, the marks are right, and the slot is for the order of this net's literals
pub record IsKeptEdition (e : Inside) : Type 0 where
  pub frozen : IsTrue e.net.frozen
  pub unowned : IsFrozen e.marks
  pub right : AreRight e.net.theory e.net.names (places e.marks) (stands e.marks)
  pub listing : e.listing ≡ e.net
