-- What has room is named.
use Rattle.dl_theory.specs.declared.edit.Edit.{Edit}
use Rattle.dl_theory.specs.declared.edit.Edit.TheVariants.{AddRule, DropRule, AddFact, DropFact, AddPair, DropPair}
use Rattle.dl_net.specs.declared.tables.Tables.{Tables}
use Rattle.dl_net.specs.Edited.{HasEditLiterals}
use Rattle.dl_net.specs.Kept.{HasEditRoom}

pub room_named : (t : Tables) (e : Edit) → HasEditRoom t e → HasEditLiterals t.names.literals e
room_named t (AddRule r) h = h.named
room_named t (DropRule l) h = tt
room_named t (AddFact q) h = h.named
room_named t (DropFact q) h = tt
room_named t (AddPair p) h = tt
room_named t (DropPair p) h = tt
