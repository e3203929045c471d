-- How the fields of a net hold a theory by numbers, and the room for an edit that is prepared.
use Rattle.std.specs.Prelude.{◌≡◌, true, Option, None, option_map}
use Rattle.std.specs.Arc.{arc_value}
use Rattle.dl_theory.specs.declared.edit.Edit.{Edit}
use Rattle.dl_net.specs.declared.ready.Ready.{Ready}
use Rattle.dl_net.specs.declared.held.Held.{Held}
use Rattle.dl_net.specs.declared.held.Held.TheVariants.{Own, Shared}
use Rattle.dl_net.specs.declared.net.Net.TheInside.{Inside}
use Rattle.dl_net.specs.declared.tables.Tables.{Tables}
use Rattle.dl_graph.specs.Numbers.{NetLists}
use Rattle.dl_net.specs.Kept.{AreKept, HasOrder, HasPending, net_in}

abbrev pub tables_in : Held → Tables
tables_in (Own t) = t
tables_in (Shared t order) = arc_value t

abbrev pub IsOwn : Held → Type 0
IsOwn (Own t) = Unit {0}
IsOwn (Shared t order) = ⊥

abbrev pub IsShared : Held → Type 0
IsShared (Own t) = ⊥
IsShared (Shared t order) = Unit {0}

-- an order beside shared tables has their pairs, of which none is prepared
abbrev pub IsBeside : Held → Type 0
IsBeside (Own t) = Unit {0}
IsBeside (Shared t order) = HasOrder order (arc_value t).pairs.items None

-- the edit that is prepared
abbrev pub edit_in : Option Ready → Option Edit
edit_in o = option_map (λ r. r.edit) o

abbrev pub net_of : Inside → NetLists
net_of a = record (net_in (tables_in a.held)) { pending = edit_in a.pending; frozen = a.frozen }

-- what is prepared has its room in tables of the net's own, what is frozen is shared, and an order beside it is that of its pairs
pub record IsKeptNet (a : Inside) : Type 0 where
  pub kept : AreKept (tables_in a.held)
  pub beside : IsBeside a.held
  pub pending : HasPending (tables_in a.held) (edit_in a.pending)
  pub owned : (¬ (a.pending ≡ None)) → IsOwn a.held
  pub frozen : a.frozen ≡ true → IsShared a.held
