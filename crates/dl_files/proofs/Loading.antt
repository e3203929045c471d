-- What a file gives.
use Rattle.std.proofs.Common.{◌≡◌, ◌≤◌, ℕ, List, length, Option, None, Some, IsSome, refl, Vec}
use Rattle.std.specs.declared.alloc.Global.{Global}
use Rattle.dl_files.specs.declared.refusal.Refusal.{Refusal}
use Rattle.dl_files.specs.declared.refusal.Refusal.TheVariants.{Size, Form, Variables, Edit}
use Rattle.dl_files.specs.Theories.{limit, IsLineRefusal, IsRefusal}
use Rattle.dl_files.specs.Whole.{IsWhole}

-- a refusal of a line is one of the file, where the file is not too large
pub line_refusal : (bytes : List ℕ) (x : Refusal) → length bytes ≤ limit → IsLineRefusal bytes x → IsRefusal bytes x
line_refusal bytes Size small h = absurd h
line_refusal bytes (Form line) small h = (small, h)
line_refusal bytes (Variables line) small h = (small, h)
line_refusal bytes (Edit line refusal) small h = (small, h)

-- what is so of a file that was read is so of what it holds
pub holds_so : (P : List ℕ → Type 0) (held : Option (List ℕ)) (whole : Option (Vec ℕ Global)) → IsSome held → IsWhole limit held whole
    → ((bytes : List ℕ) → IsWhole limit (Some bytes) whole → P bytes) → (bytes : List ℕ) × (held ≡ Some bytes) × P bytes
holds_so P None whole some read gives = absurd (cc)
holds_so P (Some bytes) whole some read gives = (bytes, refl, gives bytes read)
