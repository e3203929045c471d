-- A source read to its end.
use Rattle.std.specs.Prelude.{◌≡◌, ◌⊎◌, ◌++◌, ℕ, ◌<◌, ◌≤◌, List, length, Option, None, Some, IfSome, Result, Ok, Err, Vec}
use Rattle.std.specs.declared.alloc.Global.{Global}
use Rattle.std.specs.Io.KnownBytes.{prepend_known, IsAtEnd}
use Rattle.dl_io.specs.Outside.{Rose}
use Rattle.dl_io.specs.House.{HouseState}
use Rattle.dl_files.specs.declared.whole.Stop.{Stop}
use Rattle.dl_files.specs.declared.whole.Stop.TheVariants.{Memory, Fault}

-- all bytes that the source told, or none where they are more than the limit
abbrev pub IsWhole : ℕ → Option (List ℕ) → Option (Vec ℕ Global) → Type 0
IsWhole limit rest None = IfSome rest (λ bytes. limit < length bytes)
IsWhole limit rest (Some whole) = (length whole.items ≤ limit) × IfSome rest (λ bytes. whole.items ≡ bytes)

-- no more bytes than these were taken from what the source told
abbrev pub TakesAtMost : ℕ → Option (List ℕ) → Option (List ℕ) → Type 0
TakesAtMost most old new = (piece : List ℕ) × (old ≡ prepend_known piece new) × (length piece ≤ most)

-- Under a name nothing was read, or at most so many bytes of what it holds.
abbrev pub ReadsAtMost : (List ℕ → ℕ) → HouseState → HouseState → Type 0
ReadsAtMost most old new = (name : List ℕ) → (new.left name ≡ old.left name) ⊎ TakesAtMost (most name) (old.holds name) (new.left name)

-- `Fault` comes only where the count rose, and else the count is as it was
abbrev pub HasFault : {T : Type 0} → ℕ → ℕ → Result T Stop → Type 0
HasFault before now (Ok x) = now ≡ before
HasFault before now (Err Fault) = Rose before now
HasFault before now (Err Memory) = now ≡ before

-- so many bytes were read, behind those read before; none into some room is the end
pub record ReadsMore (old new : Option (List ℕ)) (before now : List ℕ) (room count : ℕ) : Type 0 where
  pub piece : List ℕ
  pub told : old ≡ prepend_known piece new
  pub added : now ≡ before ++ piece
  pub size : length piece ≡ count
  pub within : count ≤ room
  pub ended : count ≡ 0 → 0 < room → IsAtEnd new
