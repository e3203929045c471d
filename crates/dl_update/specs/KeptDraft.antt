-- How the fields of a draft hold a theory and its marks.
use Rattle.std.specs.Prelude.{◌≡◌, ◌≤◌, true, length}
use Rattle.dl_marks.specs.Marks.{IsFrozen}
use Rattle.dl_update.specs.declared.draft.Draft.TheInside.{Inside}
use Rattle.dl_update.specs.Drafts.{DraftLists}
use Rattle.dl_update.specs.RightIn.{AreRightIn}

abbrev pub draft_of : Inside → DraftLists
draft_of d = record { theory = d.net.theory; names = d.net.names; families = d.families; frozen = d.frozen }

-- the marks are right, the region holds no number past the names, and in a frozen draft the net and the marks can be shared
pub record IsKeptDraft (d : Inside) : Type 0 where
  pub right : AreRightIn d.families d.net.theory d.net.names d.marks
  pub cone : d.cone.bound ≤ length d.net.names
  pub net_frozen : d.frozen ≡ true → d.net.frozen ≡ true
  pub marks_frozen : d.frozen ≡ true → IsFrozen d.marks
