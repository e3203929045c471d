-- How the fields of the names of labels hold them.
use Rattle.std.specs.Prelude.{ℕ, Option, None, Some, List, [], ◌++◌, length}
use Rattle.std.specs.Arc.{arc_value}
use Rattle.std.specs.declared.sync.Arc.{Arc}
use Rattle.std.specs.HashSet.{HashSet}
use Rattle.dl_lists.specs.declared.label_names.LabelNames.TheInside.{Inside}
use Rattle.dl_base.specs.Paths.{IsDistinct}
use Rattle.dl_lists.specs.Names.{NameLists}

-- the names that are shared, if any are
abbrev pub shared_in : {S Z : Type 0} → Option (Arc (HashSet (List ℕ) S) Z) → List (List ℕ)
shared_in None = []
shared_in (Some names) = (arc_value names).keys

abbrev pub names_of : Inside → NameLists
names_of a = record { keys = shared_in a.shared ++ a.later.keys; later = length a.later.keys }

abbrev pub IsKeptNames : Inside → Type 0
IsKeptNames a = IsDistinct (shared_in a.shared ++ a.later.keys)
