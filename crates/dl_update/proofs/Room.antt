-- Room that is enough for less.
use Rattle.std.proofs.Common.{ℕ, ◌≤◌, arith}
use Rattle.dl_fill.specs.Prepared.{Room}
use Rattle.dl_fill.specs.Families.{FamilyTable, HasPlaces}
use Rattle.dl_update.specs.declared.works.Works.{Works}
use Rattle.dl_update.specs.Room.{HasRoom}

module _ (rules names fewer less : ℕ) (few : fewer ≤ rules) (short : less ≤ names) where
  less_places : (t : FamilyTable) (room : Room) → HasPlaces t rules names room → HasPlaces t fewer less room
  less_places t room h = record { width = h.width; rules = omega (arith, few, h.rules); names = omega (arith, short, h.names) }

  pub less_room : (w : Works) → HasRoom rules names w → HasRoom fewer less w
  less_room w room = record {
    definite = less_places _ w.definite room.definite;
    blocking = less_places _ w.blocking room.blocking;
    pair = less_places _ w.pair room.pair;
  }
