-- How pairs that are kept by their atoms stand for literals.
use Rattle.std.specs.Prelude.{◌≡◌, ◌≤◌, ◌/◌, ◌%◌, ◌==◌, ◌^◌, ℕ, List, Some, map, All, length, slice_get}
use Rattle.std.specs.List as keys
use Rattle.dl_base.specs.Paths.{IsDistinct}
use Rattle.dl_lit.specs.declared.literal.Literal.{Literal}
use Rattle.dl_names.specs.declared.atom.Atom.{Atom}
use Rattle.dl_names.specs.declared.atom_pairs.AtomPairs.TheInside.{Inside}
use Rattle.dl_names.specs.Atoms.{first_of, atom_eq}
use Rattle.dl_names.specs.Stems.{Knows}

abbrev pub firsts_of : Inside → List Literal
firsts_of s = map (first_of s.modes.keys) s.atoms.keys

-- a number tells where the pair of a name without a mode stands: at half of it, with a positive literal first where it is even
pub record Tells (atoms : List Atom) (name : List ℕ) (number : ℕ) : Type 0 where
  pub atom : Atom
  pub there : slice_get atoms (number / 2) ≡ Some atom
  pub plain : atom.mode ≡ 0
  pub named : atom.name ≡ name
  pub sign : atom.positive ≡ (number % 2 == 0)

-- each mode stands once, and each pair has one of them and stands once; what is noted of a name is right
pub record IsKeptAtoms (s : Inside) : Type 0 where
  pub distinct : IsDistinct s.modes.keys
  pub few : length s.modes.keys ≤ 2 ^ 31
  pub modes : All (λ a. a.mode ≤ length s.modes.keys) s.atoms.keys
  pub once : keys.IsDistinct atom_eq s.atoms.keys
  pub noted : (name : List ℕ) (number : ℕ) → Knows s.stems name number → Tells s.atoms.keys name number
