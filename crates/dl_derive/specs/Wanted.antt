-- The nodes of the definite family that the gates of other nodes read.
use Rattle.std.specs.Prelude.{◌≡◌, ◌<◌, ◌+◌, ◌*◌, ◌/◌, ◌%◌, ℕ, Bool, true, false, List, length, Contains, slice_index_or}
use Rattle.dl_lit.specs.declared.literal.Tag.{Tag}
use Rattle.dl_lit.specs.declared.literal.Family.TheVariants.{Definite}
use Rattle.dl_lit.specs.Literal.{tagged}
use Rattle.dl_theory.specs.Derivations.{Follows}
use Rattle.dl_marks.specs.Marks.{Marking, marked}
use Rattle.dl_graph.specs.Counting.{times}
use Rattle.dl_graph.specs.Region.{Numbers}
use Rattle.dl_graph.specs.Numbers.{NetLists, attackers_row, literal_at}
use Rattle.dl_fill.specs.declared.basis.Basis.{Basis}
use Rattle.dl_fill.specs.declared.basis.Basis.TheVariants.{Prevailing, Failing, Sure, Unsure, Nothing}
use Rattle.dl_fill.specs.Before.{before_of, is_inside, tag_of, attack_holds}
use Rattle.dl_fill.specs.Filled.{either_kind}
use Rattle.dl_fill.specs.Passing.{IsOrdered}
use Rattle.dl_fill.specs.Reads.{basis_at}
use Rattle.dl_definite.specs.Definite.{definite_wires, definite_gate}

abbrev pub IsWanted : List Bool → ℕ → Type 0
IsWanted wanted x = slice_index_or wanted x false ≡ true

-- nothing that was wanted is forgotten
pub record IsMore (old new : List Bool) : Type 0 where
  pub len : length new ≡ length old
  pub kept : (x : ℕ) → IsWanted old x → IsWanted new x

-- W tells which nodes are at hand
module _ (N : NetLists) (marked : Tag → ℕ → Bool) (W : ℕ → Type 0) where
  -- the nodes of a kind of all that attack q
  abbrev pub WithAttackers : ℕ → ℕ → Type 0
  WithAttackers kind q = (c : ℕ) → Contains (attackers_row N (literal_at N q)) c → W (c * 4 + kind)

  pub record WithPrevailing (q : ℕ) : Type 0 where
    pub sure : marked (tag_of true Definite) q ≡ true → W (q * 4 + 0)
    pub fails : marked (tag_of true Definite) q ≡ false → WithAttackers 1 q

  pub record WithFailing (q : ℕ) : Type 0 where
    pub unsure : W (q * 4 + 1)
    pub holds : attack_holds N marked q ≡ true → WithAttackers 0 q

  -- what a gate reads at q
  abbrev pub With : Basis → ℕ → Type 0
  With Prevailing q = WithPrevailing q
  With Failing q = WithFailing q
  With Sure q = marked (tag_of true Definite) q ≡ true → W (q * 4 + 0)
  With Unsure q = W (q * 4 + 1)
  With Nothing q = Unit {0}

-- x is among the nodes, where the tagged literal that it stands for follows
abbrev pub IsAtHand : NetLists → List ℕ → List ℕ → ℕ → Type 0
IsAtHand N members nodes x =
    (plus : Bool) (n : ℕ) → x ≡ n * 4 + either_kind 0 1 plus → Contains members n → Follows N.theory (tagged plus Definite (literal_at N n)) → 0 < times x nodes

-- nodes of the definite family in order; of those that others read, the ones that follow are among them
pub record IsSureFor (N : NetLists) (m : Marking) (region : Numbers) (width : ℕ) (bases : List Basis) (nodes sure : List ℕ) : Type 0 where
  pub ordered : IsOrdered N (before_of m region) 4 2 definite_wires (definite_gate N (before_of m region)) sure
  pub has : (y : ℕ) → 0 < times y nodes → is_inside region.members (y / width) ≡ true → With N (marked m) (IsAtHand N region.members sure) (basis_at bases (y % width)) (y / width)
