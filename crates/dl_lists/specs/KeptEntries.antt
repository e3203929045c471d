-- How the fields of a list of entries hold it.
use Rattle.std.specs.Prelude.{ℕ, ◌-◌, ◌<◌, ◌≤◌, min, true, false, List, [], All, length, get_or}
use Rattle.std.specs.List.{range_with_len}
use Rattle.dl_lists.specs.declared.entries.Form.{Form}
use Rattle.dl_lists.specs.declared.entries.Form.TheVariants.{Same, Apart}
use Rattle.dl_lists.specs.Last.{IsLast}
use Rattle.dl_lists.specs.Entries.{EntryLists}

abbrev pub entries_of : Form → EntryLists
entries_of (Same len) = record { entries = range_with_len 0 len; count = len; spare = 4294967295 - len; apart = false; owned = [] }
entries_of (Apart columns) = record {
  entries = columns.entries.items;
  count = length columns.lasts.items;
  spare = min (min columns.lasts.spare columns.entries.spare) (4294967295 - length columns.entries.items);
  apart = true;
  owned = columns.lasts.owned;
}

-- each entry has its last number, and each number an entry
pub record AreColumns (lasts entries : List ℕ) : Type 0 where
  pub last : (e : ℕ) → e < length lasts → IsLast entries e (get_or lasts e 0)
  pub within : All (λ e. e < length lasts) entries
  pub fewer : length lasts ≤ length entries
  pub few : length entries ≤ 4294967295

abbrev pub IsKeptEntries : Form → Type 0
IsKeptEntries (Same len) = len ≤ 4294967295
IsKeptEntries (Apart columns) = AreColumns columns.lasts.items columns.entries.items
