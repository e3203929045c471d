-- How the fields of a list of labels hold it.
use Rattle.std.specs.Prelude.{◌≡◌, ℕ, ◌+◌, ◌<◌, Option, None, Some, List, map, length}
use Rattle.dl_lists.specs.declared.rule_labels.Ready.{Ready}
use Rattle.dl_lists.specs.declared.rule_labels.Ready.TheVariants.{Nothing, New, Again}
use Rattle.dl_lists.specs.declared.rule_labels.RuleLabels.TheInside.{Inside}
use Rattle.dl_lists.specs.Labels.{LabelLists}
use Rattle.dl_lists.specs.Names.{NameLists, name_at}
use Rattle.dl_lists.specs.Entries.{EntryLists, CanRepeat, AreEntered}

abbrev pub ready_of : List (List ℕ) → ℕ → Ready → Option (List ℕ)
ready_of names count Nothing = None
ready_of names count New = Some (name_at names count)
ready_of names count (Again entry) = Some (name_at names entry)

abbrev pub labels_of : Inside → LabelLists
labels_of a = record {
  labels = map (name_at a.names.keys) a.entries.entries;
  ready = ready_of a.names.keys a.entries.count a.ready;
}

-- there is room for what is prepared, and a new name stands behind those of the entries, and is not shared
abbrev pub HasRoom : EntryLists → NameLists → Ready → Type 0
HasRoom entries names Nothing = length names.keys ≡ entries.count
HasRoom entries names New = (length names.keys ≡ entries.count + 1) × (0 < names.later) × (0 < entries.spare)
HasRoom entries names (Again entry) =
    (length names.keys ≡ entries.count) × (0 < entries.spare) × (entry < entries.count) × CanRepeat entries entry

pub record IsKeptLabels (a : Inside) : Type 0 where
  pub entered : AreEntered a.entries.entries a.entries.count
  pub room : HasRoom a.entries a.names a.ready
