-- What a fill asks of the marks, and what it gives.
use Rattle.std.specs.Prelude.{◌≡◌, ℕ, ◌+◌, ◌*◌, ◌<◌, ◌≤◌, Bool, true, false, IsTrue, List, length, cond, All, Contains, ◌⊎◌, ◌↔◌}
use Rattle.dl_lit.specs.declared.literal.Tag.{Tag}
use Rattle.dl_lit.specs.declared.literal.Family.{Family}
use Rattle.dl_lit.specs.Literal.{tagged}
use Rattle.dl_theory.specs.Derivations.{Follows}
use Rattle.dl_theory.specs.Marks.{IsRightAt, IsFamilyRight}
use Rattle.dl_marks.specs.Marks.{Marking, places, marked, is_owned}
use Rattle.dl_graph.specs.Region.{Numbers}
use Rattle.dl_graph.specs.Counting.{times}
use Rattle.dl_graph.specs.Numbers.{NetLists, literal_at}
use Rattle.dl_fill.specs.Counters.{CounterLists}
use Rattle.dl_fill.specs.Before.{tag_of}

abbrev pub stands : Marking → Tag → ℕ → Type 0
stands m tag n = IsTrue (marked m tag n)

-- the marks of a family are right at each place
abbrev pub IsRight : NetLists → Marking → Family → Type 0
IsRight N m f = IsFamilyRight N.theory N.names (places m) (stands m) f

-- the marks of our families are right outside the region and absent inside it, and those of the region may be written
pub record IsReady (N : NetLists) (Ours : Family → Type 0) (m : Marking) (region : Numbers) : Type 0 where
  pub bound : region.bound ≡ length N.names
  pub room : length N.names ≤ places m
  pub owned : All (λ q. IsTrue (is_owned m q)) region.members
  pub outside : (f : Family) → Ours f → (plus : Bool) (n : ℕ) → n < places m → (¬ Contains region.members n)
      → IsRightAt N.theory N.names (stands m) (tag_of plus f) n
  pub absent : (f : Family) → Ours f → (plus : Bool) → All (λ q. marked m (tag_of plus f) q ≡ false) region.members

-- the marks of our families are right everywhere, and all others are as before
pub record IsFilled (N : NetLists) (Ours : Family → Type 0) (old new : Marking) : Type 0 where
  pub right : (f : Family) → Ours f → IsRight N new f
  pub others : (f : Family) → (¬ Ours f) → (plus : Bool) (n : ℕ) → marked new (tag_of plus f) n ≡ marked old (tag_of plus f) n
  pub places : places new ≡ places old
  pub owned : (n : ℕ) → is_owned new n ≡ is_owned old n

-- the mark of a tag is set at those members whose node of a kind has fired, and all others are as before
pub record IsWritten (width kind : ℕ) (w : CounterLists) (tag : Tag) (members : List ℕ) (old new : Marking) : Type 0 where
  pub set : All (λ q. 0 < times (q * width + kind) w.queue → marked new tag q ≡ true) members
  pub kept : (t : Tag) (n : ℕ) → (marked new t n ≡ marked old t n)
      ⊎ ((t ≡ tag) × Contains members n × (0 < times (n * width + kind) w.queue) × (marked new t n ≡ true))
  pub places : places new ≡ places old
  pub owned : (n : ℕ) → is_owned new n ≡ is_owned old n

-- the node of a literal for its plus tag, or for its minus tag, has fired
abbrev pub HasFired : ℕ → (Bool → ℕ) → CounterLists → Bool → ℕ → Type 0
HasFired width kind w plus q = 0 < times (q * width + kind plus) w.queue

-- the marks of a family in the region are those whose nodes have fired, and all others are as before
pub record IsFamilyWritten (Fired : Bool → ℕ → Type 0) (f : Family) (members : List ℕ) (old new : Marking) : Type 0 where
  pub within : (plus : Bool) (n : ℕ) → Contains members n → (marked new (tag_of plus f) n ≡ true) ↔ Fired plus n
  pub out : (plus : Bool) (n : ℕ) → (¬ Contains members n) → marked new (tag_of plus f) n ≡ marked old (tag_of plus f) n
  pub others : (g : Family) → (¬ (g ≡ f)) → (plus : Bool) (n : ℕ) → marked new (tag_of plus g) n ≡ marked old (tag_of plus g) n
  pub places : places new ≡ places old
  pub owned : (n : ℕ) → is_owned new n ≡ is_owned old n

-- the marks of some families in the region are those whose nodes have fired, and all others are as before
pub record AreWritten (Fired : Family → Bool → ℕ → Type 0) (Ours : Family → Type 0) (members : List ℕ) (old new : Marking) : Type 0 where
  pub within : (f : Family) → Ours f → (plus : Bool) (n : ℕ) → Contains members n → (marked new (tag_of plus f) n ≡ true) ↔ Fired f plus n
  pub out : (f : Family) → Ours f → (plus : Bool) (n : ℕ) → (¬ Contains members n) → marked new (tag_of plus f) n ≡ marked old (tag_of plus f) n
  pub others : (f : Family) → (¬ Ours f) → (plus : Bool) (n : ℕ) → marked new (tag_of plus f) n ≡ marked old (tag_of plus f) n
  pub places : places new ≡ places old
  pub owned : (n : ℕ) → is_owned new n ≡ is_owned old n

-- exactly what follows in a family has fired, at the members of the region
abbrev pub IsSolved : NetLists → List ℕ → (Bool → ℕ → Type 0) → Family → Type 0
IsSolved N members Fired f = (plus : Bool) (q : ℕ) → Contains members q → Fired plus q ↔ Follows N.theory (tagged plus f (literal_at N q))

-- the plus kind, and the minus kind
abbrev pub either_kind : ℕ → ℕ → Bool → ℕ
either_kind for_plus for_minus plus = cond plus for_plus for_minus
