-- A house whose files are opened for sessions, and settled after them.
use Rattle.std.specs.Prelude.{◌≡◌, ◌⊎◌, ℕ, Bool, true, false, List, [], ◌∷◌, map, Option, Some, None, IsTrue, IsSome, string_bytes, if◌then◌else◌}
use Rattle.dl_io.specs.Outside.{Rose}
use Rattle.dl_io.specs.House.{HouseState, opened_in, opened_out, settled_in, settled_out}
use Rattle.dl_io.specs.declared.house.OpenStop.{OpenStop}
use Rattle.dl_io.specs.declared.house.OpenStop.TheVariants.{Failed, Memory}
use Rattle.dl_sessions.specs.Served.{Told}
use Rattle.dl_words.specs.Names.{output_name, output_names, is_among, AreDistinct, AreApart, GrowsBy}
use Rattle.dl_journal.specs.declared.named.Named.{Named}

-- the names of sessions, in order
abbrev pub names_of : List Named → List (List ℕ)
names_of all = map (λ named. string_bytes named.name) all

-- no name comes twice or is an output, and neither a name is open nor an output
pub record MayOpen (house : HouseState) (names : List (List ℕ)) : Type 0 where
  pub distinct : AreDistinct names
  pub apart : AreApart names (output_names names)
  pub inputs : (name : List ℕ) → is_among name names ≡ true → house.open_in name ≡ false
  pub outputs : (name : List ℕ) → is_among name (output_names names) ≡ true → house.open_out name ≡ false

-- a name was opened for input, and its output for output
abbrev pub opened_pair : HouseState → List ℕ → HouseState
opened_pair house name = opened_out (opened_in house name) (output_name name)

-- the same of each name, in order
abbrev pub opened_all : HouseState → List (List ℕ) → HouseState
opened_all house [] = house
opened_all house (name ∷ more) = opened_all (opened_pair house name) more

-- both streams of a name were settled
abbrev pub settled_pair : HouseState → List ℕ → Told → HouseState
settled_pair house name t = settled_out (settled_in house name t.rest t.read_faults) (output_name name) t.handed t.write_faults

-- the same of each name that has streams, the last one first
abbrev pub settled_all : HouseState → List (List ℕ) → List Told → HouseState
settled_all house names [] = house
settled_all house [] (t ∷ ts) = house
settled_all house (name ∷ names) (t ∷ ts) = settled_pair (settled_all house names ts) name t

-- what a new sink has written and handed on
abbrev pub begun : Bool → Option (List ℕ)
begun tells = if tells then Some [] else None

-- streams as a house opens them under a name
pub record IsFresh (tells : Bool) (house : HouseState) (name : List ℕ) (t : Told) : Type 0 where
  pub rest : t.rest ≡ house.holds name
  pub known : IsTrue tells → IsSome t.rest
  pub read_faults : t.read_faults ≡ 0
  pub source_name : t.source_name ≡ name
  pub written : t.written ≡ begun tells
  pub handed : t.handed ≡ begun tells
  pub write_faults : t.write_faults ≡ 0
  pub sink_name : t.sink_name ≡ output_name name

-- the same of the first names, in order
abbrev pub AreFresh : Bool → HouseState → List (List ℕ) → List Told → Type 0
AreFresh tells house names [] = Unit {0}
AreFresh tells house [] (t ∷ ts) = ⊥
AreFresh tells house (name ∷ names) (t ∷ ts) = IsFresh tells house name t × AreFresh tells house names ts

-- streams that the house can settle under a name
pub record IsOpen (house : HouseState) (name : List ℕ) (t : Told) : Type 0 where
  pub input : house.open_in name ≡ true
  pub output : house.open_out (output_name name) ≡ true
  pub source_name : t.source_name ≡ name
  pub sink_name : t.sink_name ≡ output_name name

-- the same of the first names, in order
abbrev pub AreOpen : HouseState → List (List ℕ) → List Told → Type 0
AreOpen house names [] = Unit {0}
AreOpen house [] (t ∷ ts) = ⊥
AreOpen house (name ∷ names) (t ∷ ts) = IsOpen house name t × AreOpen house names ts

-- the house's own count rose where an opening failed, and no count where there was no memory
abbrev pub HasStopCause : HouseState → HouseState → OpenStop → Type 0
HasStopCause old new Failed = Rose old.own new.own × Rose old.faults new.faults
HasStopCause old new Memory = new.faults ≡ old.faults

-- Not all could be opened, and what had been opened was settled: nothing was read, and nothing written.
pub record Undoes (tells : Bool) (old new : HouseState) (names : List (List ℕ)) (stop : OpenStop) : Type 0 where
  pub open_in : (name : List ℕ) → new.open_in name ≡ old.open_in name
  pub open_out : (name : List ℕ) → new.open_out name ≡ old.open_out name
  pub left : (name : List ℕ) → (new.left name ≡ old.left name) ⊎ ((is_among name names ≡ true) × (new.left name ≡ old.holds name))
  pub wrote : (name : List ℕ) → (new.wrote name ≡ old.wrote name) ⊎ (new.wrote name ≡ begun tells)
  pub asked_in : GrowsBy old.asked_in new.asked_in names
  pub asked_out : GrowsBy old.asked_out new.asked_out (output_names names)
  pub cause : HasStopCause old new stop
