-- What reading files does to a house. Only the code needs these.
use Rattle.std.specs.Prelude.{◌≡◌, ◌⊎◌, ℕ, ◌+◌, List, Result, Ok, Err}
use Rattle.dl_io.specs.Outside.{Rose}
use Rattle.dl_io.specs.House.{HouseState}
use Rattle.dl_words.specs.Names.{GrowsBy}
use Rattle.dl_files.specs.declared.whole.Stop.{Stop}
use Rattle.dl_files.specs.declared.whole.Stop.TheVariants as stop
use Rattle.dl_files.specs.Theories.{limit}
use Rattle.dl_files.specs.Whole.{ReadsAtMost}

-- one byte more than the limit of a file
abbrev pub ReadsWithin : HouseState → HouseState → Type 0
ReadsWithin old new = ReadsAtMost (λ name. limit + 1) old new

-- names were opened for input, read and settled, and nothing else
pub record ReadsOnly (old new : HouseState) (names : List (List ℕ)) : Type 0 where
  pub holds : new.holds ≡ old.holds
  pub within : ReadsWithin old new
  pub wrote : new.wrote ≡ old.wrote
  pub open_in : new.open_in ≡ old.open_in
  pub open_out : new.open_out ≡ old.open_out
  pub asked_in : GrowsBy old.asked_in new.asked_in names
  pub asked_out : new.asked_out ≡ old.asked_out

-- Files were opened, those for input and those for output, in order, at most so much of each was read, and all was settled.
pub record Settles (old new : HouseState) (most : List ℕ → ℕ) (inputs outputs : List (List ℕ)) : Type 0 where
  pub within : ReadsAtMost most old new
  pub open_in : (name : List ℕ) → new.open_in name ≡ old.open_in name
  pub open_out : (name : List ℕ) → new.open_out name ≡ old.open_out name
  pub asked_in : GrowsBy old.asked_in new.asked_in inputs
  pub asked_out : GrowsBy old.asked_out new.asked_out outputs

-- no count of an opening or of a stream rose
pub record KeepsCounts (old new : HouseState) : Type 0 where
  pub own : new.own ≡ old.own
  pub share : new.share ≡ old.share
  pub share_out : new.share_out ≡ old.share_out

-- what a read of a whole file did to them
abbrev pub CountsBy : {T : Type 0} → HouseState → HouseState → List ℕ → Result T Stop → Type 0
CountsBy old new name (Ok x) = KeepsCounts old new
CountsBy old new name (Err stop.Fault) = Rose old.own new.own ⊎ Rose (old.share name) (new.share name)
CountsBy old new name (Err stop.Memory) = Unit {0}
