-- Pairs at places that never move.
use Rattle.std.specs.Prelude.{◌≡◌, ℕ, suc, ◌<◌, ◌≤◌, true, false, List, Option, Some, map, filter, length, get_or}
use Rattle.std.specs.Map.{lookup}
use Rattle.dl_sup.specs.declared.link.Link.{Link}
use Rattle.dl_sup.specs.declared.slot.Slot.{Slot}
use Rattle.dl_sup.specs.declared.slot.Way.{Way}
use Rattle.dl_sup.specs.declared.slot.Way.TheVariants.{Down, Up}
use Rattle.dl_sup.specs.Links.{link, same_link}
use Rattle.dl_sup.specs.HeadLists.{HeadLists, head_of}

abbrev pub near : Way → Slot → ℕ
near Down s = s.link.upper
near Up s = s.link.lower

abbrev pub far : Way → Slot → ℕ
far Down s = s.link.lower
far Up s = s.link.upper

abbrev pub older : Way → Slot → ℕ
older Down s = s.down
older Up s = s.up

abbrev pub place_of : List (Link × ℕ) → Link → Option ℕ
place_of places q = lookup (same_link q) places

-- past the end stands a pair that is not there
abbrev pub no_slot : Slot
no_slot = record { link = link 0 0; alive = false; down = 0; up = 0 }

abbrev pub slot_at : List Slot → ℕ → Slot
slot_at slots t = get_or slots t no_slot

abbrev pub IsAlive : List Slot → ℕ → Type 0
IsAlive slots t = (slot_at slots t).alive ≡ true

-- the pairs that are there, in order
abbrev pub live : List Slot → List Link
live slots = map (λ s. s.link) (filter (λ s. s.alive) slots)

-- each pair of an item is on its chain
pub record IsChained (way : Way) (slots : List Slot) (heads : HeadLists) : Type 0 where
  pub begins : (t : ℕ) → IsAlive slots t → t < head_of heads (near way (slot_at slots t))
  pub goes_on : (s t : ℕ) → t < s → s < length slots → IsAlive slots t → near way (slot_at slots t) ≡ near way (slot_at slots s)
      → t < older way (slot_at slots s)
  pub exact : (item t : ℕ) → head_of heads item ≡ suc t → near way (slot_at slots t) ≡ item
  pub same : (s t : ℕ) → s < length slots → older way (slot_at slots s) ≡ suc t → near way (slot_at slots t) ≡ near way (slot_at slots s)
  pub short : (item : ℕ) → head_of heads item ≤ length slots
  pub falls : (s : ℕ) → s < length slots → older way (slot_at slots s) ≤ s

-- each pair is found at its place, and on the chains of its two items
pub record IsKept (slots : List Slot) (places : List (Link × ℕ)) (downs ups : HeadLists) : Type 0 where
  pub found : (t : ℕ) → IsAlive slots t → place_of places (slot_at slots t).link ≡ Some t
  pub below : IsChained Down slots downs
  pub over : IsChained Up slots ups

-- pairs may go, and nothing else changes
pub record KeepsSlots (old new : List Slot) : Type 0 where
  pub wide : length new ≡ length old
  pub links : (t : ℕ) → (slot_at new t).link ≡ (slot_at old t).link
  pub downs : (t : ℕ) → (slot_at new t).down ≡ (slot_at old t).down
  pub ups : (t : ℕ) → (slot_at new t).up ≡ (slot_at old t).up
  pub alive : (t : ℕ) → IsAlive new t → IsAlive old t

pub record IsFoundAt (slots : List Slot) (pair : Link) (t : ℕ) : Type 0 where
  pub within : t < length slots
  pub alive : IsAlive slots t
  pub link_is : (slot_at slots t).link ≡ pair
