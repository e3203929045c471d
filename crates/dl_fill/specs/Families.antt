-- What a family brings to the fills: a table of its kinds and wires, and that what fires by them is exactly what follows.
use Rattle.std.specs.Prelude.{◌≡◌, ◌⊎◌, ◌↔◌, ℕ, ◌+◌, ◌*◌, ◌/◌, ◌%◌, ◌<◌, ◌≤◌, Bool, true, cond, IsTrue, All, Contains, Option, Some, List, [], length}
use Rattle.dl_lit.specs.declared.literal.Tag.{Tag}
use Rattle.dl_lit.specs.declared.literal.Tagged.{Tagged}
use Rattle.dl_lit.specs.declared.literal.Family.{Family}
use Rattle.dl_lit.specs.declared.literal.Family.TheVariants.{Definite, Blocking, Propagating, Support}
use Rattle.dl_lit.specs.Literal.{tagged}
use Rattle.dl_theory.specs.Derivations.{Derives}
use Rattle.dl_theory.specs.Verdicts.{Back, Matters, needs}
use Rattle.dl_marks.specs.Marks.{Marking}
use Rattle.dl_graph.specs.Counting.{times}
use Rattle.dl_graph.specs.Numbers.{NetLists, IsNumbered, literal_at}
use Rattle.dl_graph.specs.Region.{Numbers}
use Rattle.dl_fill.specs.declared.basis.Basis.{Basis}
use Rattle.dl_fill.specs.declared.wire.Gate.{Gate}
use Rattle.dl_fill.specs.declared.wire.Wire.{Wire}
use Rattle.dl_fill.specs.Before.{Before, before_of, is_inside, tag_of, IsExact, IsExactOutside}
use Rattle.dl_fill.specs.Counters.{CounterLists}
use Rattle.dl_fill.specs.Filled.{HasFired, IsSolved}
use Rattle.dl_fill.specs.Passing.{IsOrdered}
use Rattle.dl_fill.specs.Prepared.{Room}
use Rattle.dl_fill.specs.Reads.{Reads, basis_at}
use Rattle.dl_fill.specs.Runs.{HasRun}
use Rattle.dl_fill.specs.Steps.{tag_at, steps_of}
use Rattle.dl_fill.specs.Tables.{IsTable}

-- how many kinds of nodes there are, how many of them, the first, are those of literals, and their wires; by the kind of a literal's
-- node, the tag that it stands for and what its gate reads of the definite family; the families that are filled; the kind of a
-- literal's node for a family and a sign; and the families whose marks have to be right before
pub record FamilyTable : Type 0 where
  pub width : ℕ
  pub literals : ℕ
  pub wires : List Wire
  pub tags : List (Option Tag)
  pub bases : List Basis
  pub fills : Family → Bool
  pub kind : Family → Bool → ℕ
  pub below : List Family

-- the families that are filled
abbrev pub IsFilledBy : FamilyTable → Family → Type 0
IsFilledBy t f = IsTrue (t.fills f)

-- room for the nodes of a table, at so many rules and names
pub record HasPlaces (t : FamilyTable) (for_rules for_names : ℕ) (room : Room) : Type 0 where
  pub width : room.width ≡ t.width
  pub rules : for_rules ≤ room.places
  pub names : for_names ≤ room.places

-- solved counters mean solved families: after a run over a region outside which the marks are right
abbrev pub Solves : FamilyTable → (NetLists → Before → ℕ → ℕ → Gate) → Type 0
Solves t gate =
    (N : NetLists) → IsNumbered N → (m : Marking) (region : Numbers)
    → ((f : Family) → Contains t.below f → IsExact N (before_of m region) f)
    → ((f : Family) → IsTrue (t.fills f) → IsExactOutside N (before_of m region) f)
    → ((q : ℕ) → 0 < times q region.members → q < length N.names) → (rules : List ℕ) (w : CounterLists)
    → HasRun N (before_of m region) region.members t.width t.literals t.wires (gate N (before_of m region)) rules w
    → (places : ℕ) → length w.need ≡ places * t.width → length N.names ≤ places → length N.rules ≤ places
    → (f : Family) → IsTrue (t.fills f) → IsSolved N region.members (HasFired t.width (t.kind f) w) f

-- what nodes in order are read as is a derivation, of what matters for a literal, behind one of what their gates read: in the region of
-- the literals that matter for it
abbrev pub Reading : FamilyTable → (NetLists → Before → ℕ → ℕ → Gate) → Type 0
Reading t gate =
    (N : NetLists) → IsNumbered N → (m : Marking) (region : Numbers) (q : ℕ)
    → ((f : Family) → Contains t.below f → IsExact N (before_of m region) f)
    → ((n : ℕ) → (is_inside region.members n ≡ true) ↔ ((n < length N.names) × Back N.theory (literal_at N q) (literal_at N n)))
    → (D : List Tagged) → ((x : Tagged) → Contains D x → Contains t.below x.family)
    → (nodes : List ℕ) → IsOrdered N (before_of m region) t.width t.literals t.wires (gate N (before_of m region)) nodes
    → ((y : ℕ) → 0 < times y nodes → Reads N (before_of m region) (λ plus c. Contains D (tagged plus Definite c)) (y / t.width) (basis_at t.bases (y % t.width)))
    → (f : Family) → IsTrue (t.fills f)
    → Derives N.theory D (steps_of N t.width t.tags (is_inside region.members) nodes)
    × All (Matters N.theory f (literal_at N q)) (steps_of N t.width t.tags (is_inside region.members) nodes)

-- a table can be run; the kind of a literal's node for a family that is filled and a sign stands for that tag; the families below and
-- those that are filled matter for each of these; gates that read of the definite family have it below; and a run solves the families
pub record IsSound (t : FamilyTable) (gate : NetLists → Before → ℕ → ℕ → Gate) : Type 0 where
  pub table : IsTable t.width t.literals t.wires
  pub kinds : (f : Family) → IsTrue (t.fills f) → (plus : Bool) → t.kind f plus < t.width
  pub tags : (f : Family) → IsTrue (t.fills f) → (plus : Bool) → tag_at t.tags (t.kind f plus) ≡ Some (tag_of plus f)
  pub needed : (f g : Family) → IsTrue (t.fills f) → Contains t.below g ⊎ IsTrue (t.fills g) → Contains (needs f) g
  pub base : (t.bases ≡ []) ⊎ Contains t.below Definite
  pub solves : Solves t gate
  pub derives : Reading t gate

-- a fill of a family takes at most two steps for each number of the region
abbrev pub family_steps : (Family → Bool) → ℕ → Family → ℕ
family_steps fills numbers f = cond (fills f) (2 * numbers) 0

abbrev pub most_steps : (Family → Bool) → ℕ → ℕ
most_steps fills numbers =
    family_steps fills numbers Definite + family_steps fills numbers Blocking + family_steps fills numbers Propagating + family_steps fills numbers Support
