-- Marks after a fill.
use Rattle.std.proofs.Common.{◌≡◌, ℕ, suc, zero, ◌+◌, ◌*◌, ◌<◌, ◌≤◌, Bool, true, false, Some, List, [], ◌∷◌, ◌++◌, length, take, get_or, inl, inr, ◌⊎◌, sym, subst, ap, ◌∙◌, arith, true≢false}
use Rattle.std.specs.Prelude.{◌↔◌, All, Contains, IsTrue, slice_get, MatchOption, Option}
use Rattle.std.specs.Bool.{Decides}
use Rattle.std.proofs.lemmas.Bool.{cases_eq, cases_lt, ltb-true, lt-ltb}
use Rattle.std.proofs.lemmas.List.{take_more, take_all}
use Rattle.std.proofs.lemmas.List.Elements.{All-nil, All-push, All-weaker, All-contains, Contains-push, Contains-append_left}
use Rattle.std.proofs.lemmas.Option.{slice_get-get_or, slice_get_past}
use Rattle.dl_lit.specs.declared.literal.Literal.{Literal}
use Rattle.dl_lit.specs.declared.literal.Tag.{Tag}
use Rattle.dl_lit.specs.declared.literal.Family.{Family}
use Rattle.dl_lit.specs.Literal.{tagged}
use Rattle.dl_theory.specs.Derivations.{Follows}
use Rattle.dl_theory.specs.Marks.{IsRightAt}
use Rattle.dl_marks.specs.Marks.{Marking, places, marked, is_owned}
use Rattle.dl_graph.specs.Region.{Numbers}
use Rattle.dl_graph.specs.Counting.{times}
use Rattle.dl_graph.specs.Numbers.{NetLists, literal_at, no_literal}
use Rattle.dl_fill.specs.Counters.{CounterLists}
use Rattle.dl_fill.specs.Before.{tag_of, is_inside, before_of, IsExact, IsExactOutside}
use Rattle.dl_fill.specs.Filled.{stands, IsRight, IsReady, IsWritten, IsFamilyWritten, HasFired, IsSolved}
use Rattle.dl_fill.proofs.Times.{times_cons_same, times_cons_other}
use Rattle.dl_fill.proofs.Nodes.{node_inside}

-- members, counted and not
pub times_contains : (x : ℕ) (xs : List ℕ) → 0 < times x xs → Contains xs x
times_contains x [] h = absurd (omega arith)
times_contains x (y ∷ ys) h = elim (cases_eq x y) [
  | inl same ↦ (0, omega arith, sym same)
  | inr other ↦
      let m = times_contains x ys (omega (arith, h, times_cons_other x y ys other)) in
      (suc m.0, omega (arith, m.1), m.2)
]

contains_at : (x : ℕ) (xs : List ℕ) (k : ℕ) → k < length xs → get_or xs k x ≡ x → 0 < times x xs
contains_at x [] k lt e = absurd (omega arith)
contains_at x (y ∷ ys) zero lt e = omega (arith, times_cons_same x y ys (sym e))
contains_at x (y ∷ ys) (suc k) lt e = omega (arith, contains_at x ys k (omega arith) e)

pub contains_times : (x : ℕ) (xs : List ℕ) → Contains xs x → 0 < times x xs
contains_times x xs m = contains_at x xs m.0 m.1 m.2

pub inside_decides : (members : List ℕ) (q : ℕ) → Decides (is_inside members q) (Contains members q)
inside_decides members q = (
  λ e. times_contains q members (ltb-true 0 (times q members) e),
  λ m. lt-ltb 0 (times q members) (contains_times q members m),
)

pub member_or_not : (members : List ℕ) (q : ℕ) → Contains members q ⊎ (¬ Contains members q)
member_or_not members q = elim (cases_eq (times q members) 0) [
  | inl none ↦ inr (λ m. omega (arith, none, contains_times q members m))
  | inr some ↦ inl (times_contains q members (omega arith))
]

-- one more member
module _ (width kind : ℕ) (w : CounterLists) (tag : Tag) (members : List ℕ) (old : Marking) where
  pub none_written : (new : Marking) → new ≡ old → IsWritten width kind w tag [] old new
  none_written new e = record {
    set = All-nil (λ q. 0 < times (q * width + kind) w.queue → marked new tag q ≡ true);
    kept = λ t n. inl (ap (λ (m : Marking). marked m t n) e);
    places = ap places e;
    owned = λ n. ap (λ (m : Marking). is_owned m n) e;
  }

  pub written_more : (mid new : Marking) (i x : ℕ) → slice_get members i ≡ Some x → IsWritten width kind w tag (take i members) old mid
      → (0 < times (x * width + kind) w.queue → marked new tag x ≡ true)
      → ((t : Tag) (n : ℕ) → (marked new t n ≡ marked mid t n) ⊎ ((t ≡ tag) × (n ≡ x) × (0 < times (x * width + kind) w.queue) × (marked new t n ≡ true)))
      → places new ≡ places mid → ((n : ℕ) → is_owned new n ≡ is_owned mid n)
      → IsWritten width kind w tag (take (i + 1) members) old new
  written_more mid new i x at written set kept same owned =
      let lt : i < length members = within members i x at in
      let grown : take (i + 1) members ≡ take i members ++ x ∷ [] =
      take_more members i x lt ∙ ap (λ (y : ℕ). take i members ++ y ∷ []) (here members i x at) in
      subst (λ (xs : List ℕ). IsWritten width kind w tag xs old new) (sym grown)
      (record {
        set = All-push (λ q. 0 < times (q * width + kind) w.queue → marked new tag q ≡ true) (take i members) x
            (All-weaker (λ q. 0 < times (q * width + kind) w.queue → marked mid tag q ≡ true) (λ q. 0 < times (q * width + kind) w.queue → marked new tag q ≡ true)
            (λ q h fired. elim (kept tag q) [ inl e ↦ e ∙ h fired | inr e ↦ e.3 ]) (take i members) written.set)
            set;
        kept = λ t n. elim (kept t n) [
          | inl e ↦ elim (written.kept t n) [
            | inl f ↦ inl (e ∙ f)
            | inr f ↦ inr (f.0, Contains-append_left (take i members) (x ∷ []) n f.1, f.2, e ∙ f.3)
          ]
          | inr e ↦ inr (
            e.0,
            subst (Contains (take i members ++ x ∷ [])) (sym e.1) (Contains-push (take i members) x),
            subst (λ (v : ℕ). 0 < times (v * width + kind) w.queue) (sym e.1) e.2,
            e.3,
          )
        ];
        places = same ∙ written.places;
        owned = λ n. owned n ∙ written.owned n;
      })
    where
      within : (xs : List ℕ) (i x : ℕ) → slice_get xs i ≡ Some x → i < length xs
      within xs i x e = elim (cases_lt i (length xs)) [
        | inl lt ↦ lt
        | inr ge ↦ absurd (cc (slice_get_past xs i ge, e))
      ]

      here : (xs : List ℕ) (i x : ℕ) → slice_get xs i ≡ Some x → get_or xs i x ≡ x
      here xs i x e = cc (slice_get-get_or xs i x (within xs i x e), e)

  pub all_written : (new : Marking) (i : ℕ) → length members ≤ i → IsWritten width kind w tag (take i members) old new → IsWritten width kind w tag members old new
  all_written new i ge h = subst (λ (xs : List ℕ). IsWritten width kind w tag xs old new) (take_all i members ge) h

  pub was_or_fired : (new : Marking) → IsWritten width kind w tag members old new → (t : Tag) (n : ℕ) → marked new t n ≡ true
      → (marked old t n ≡ true) ⊎ ((t ≡ tag) × (0 < times (n * width + kind) w.queue))
  was_or_fired new h t n e = elim (h.kept t n) [ inl same ↦ inl (sym same ∙ e) | inr f ↦ inr (f.0, f.2) ]

  pub stays : (new : Marking) → IsWritten width kind w tag members old new → (t : Tag) (n : ℕ) → marked old t n ≡ true → marked new t n ≡ true
  stays new h t n e = elim (h.kept t n) [ inl same ↦ same ∙ e | inr f ↦ f.3 ]

  pub untouched : (new : Marking) → IsWritten width kind w tag members old new → (t : Tag) (n : ℕ) → (t ≡ tag → Contains members n → ⊥) → marked new t n ≡ marked old t n
  untouched new h t n never = elim (h.kept t n) [ inl same ↦ same | inr f ↦ absurd (never f.0 f.1) ]

-- both tags of a family
module _ (width : ℕ) (kind : Bool → ℕ) (w : CounterLists) (f : Family) (members : List ℕ) (old mid new : Marking) where
  pub family_written : ((plus : Bool) → All (λ q. marked old (tag_of plus f) q ≡ false) members)
      → IsWritten width (kind true) w (tag_of true f) members old mid → IsWritten width (kind false) w (tag_of false f) members mid new
      → IsFamilyWritten (HasFired width kind w) f members old new
  family_written absent first second = record {
    within = within;
    out = λ plus n never. untouched width (kind false) w (tag_of false f) members mid new second (tag_of plus f) n (λ e m. never m)
        ∙ untouched width (kind true) w (tag_of true f) members old mid first (tag_of plus f) n (λ e m. never m);
    others = λ g never plus n. untouched width (kind false) w (tag_of false f) members mid new second (tag_of plus g) n (λ e m. never (ap (λ t. t.family) e))
        ∙ untouched width (kind true) w (tag_of true f) members old mid first (tag_of plus g) n (λ e m. never (ap (λ t. t.family) e));
    places = second.places ∙ first.places;
    owned = λ n. second.owned n ∙ first.owned n;
  }
    where
      not_before : (plus : Bool) (n : ℕ) → Contains members n → marked old (tag_of plus f) n ≡ true → ⊥
      not_before plus n m e = true≢false (sym e ∙ All-contains (λ q. marked old (tag_of plus f) q ≡ false) members n (absent plus) m)

      within : (plus : Bool) (n : ℕ) → Contains members n → (marked new (tag_of plus f) n ≡ true) ↔ HasFired width kind w plus n
      within true n m = (
        λ e. elim (was_or_fired width (kind false) w (tag_of false f) members mid new second (tag_of true f) n e) [
          | inl before ↦ elim (was_or_fired width (kind true) w (tag_of true f) members old mid first (tag_of true f) n before) [
            | inl earlier ↦ absurd (not_before true n m earlier)
            | inr fired ↦ fired.1
          ]
          | inr wrong ↦ absurd (true≢false (ap (λ t. t.plus) wrong.0))
        ],
        λ fired.
            stays width (kind false) w (tag_of false f) members mid new second (tag_of true f) n
            (All-contains (λ q. 0 < times (q * width + kind true) w.queue → marked mid (tag_of true f) q ≡ true) members n first.set m fired),
      )
      within false n m = (
        λ e. elim (was_or_fired width (kind false) w (tag_of false f) members mid new second (tag_of false f) n e) [
          | inl before ↦ elim (was_or_fired width (kind true) w (tag_of true f) members old mid first (tag_of false f) n before) [
            | inl earlier ↦ absurd (not_before false n m earlier)
            | inr wrong ↦ absurd (true≢false (sym (ap (λ t. t.plus) wrong.0)))
          ]
          | inr fired ↦ fired.1
        ],
        λ fired. All-contains (λ q. 0 < times (q * width + kind false) w.queue → marked new (tag_of false f) q ≡ true) members n second.set m fired,
      )

-- at a name, and past the names
named_at : (N : NetLists) (q : ℕ) → q < length N.names → slice_get N.names q ≡ Some (literal_at N q)
named_at N q lt = slice_get-get_or N.names q no_literal lt

module _ (N : NetLists) (m : Marking) (plus : Bool) (f : Family) (q : ℕ) where
  at_name : Option Literal → Type 0
  at_name o = MatchOption o (stands m (tag_of plus f) q ↔ (plus ≡ false)) (λ x. stands m (tag_of plus f) q ↔ Follows N.theory (tagged plus f x))

  -- a right mark of a name decides
  pub right_decides : q < length N.names → IsRightAt N.theory N.names (stands m) (tag_of plus f) q → Decides (marked m (tag_of plus f) q) (Follows N.theory (tagged plus f (literal_at N q)))
  right_decides lt h =
      subst (λ (o : Option Literal). MatchOption o (stands m (tag_of plus f) q ↔ (plus ≡ false)) (λ x. stands m (tag_of plus f) q ↔ Follows N.theory (tagged plus f x)))
      (named_at N q lt) h

  pub decides_right : q < length N.names → Decides (marked m (tag_of plus f) q) (Follows N.theory (tagged plus f (literal_at N q))) → IsRightAt N.theory N.names (stands m) (tag_of plus f) q
  decides_right lt h =
      subst (λ (o : Option Literal). MatchOption o (stands m (tag_of plus f) q ↔ (plus ≡ false)) (λ x. stands m (tag_of plus f) q ↔ Follows N.theory (tagged plus f x)))
      (sym (named_at N q lt)) h

-- marks that agree at a place are right there alike
pub right_alike : (N : NetLists) (m m' : Marking) (plus : Bool) (f : Family) (q : ℕ) → marked m' (tag_of plus f) q ≡ marked m (tag_of plus f) q
    → IsRightAt N.theory N.names (stands m) (tag_of plus f) q → IsRightAt N.theory N.names (stands m') (tag_of plus f) q
right_alike N m m' plus f q e h =
    subst (λ (b : Bool). MatchOption (slice_get N.names q) (IsTrue b ↔ (plus ≡ false)) (λ x. IsTrue b ↔ Follows N.theory (tagged plus f x))) (sym e) h

-- what gates read is exact
pub exact_of_right : (N : NetLists) (m : Marking) (region : Numbers) (f : Family) → length N.names ≤ places m → IsRight N m f → IsExact N (before_of m region) f
exact_of_right N m region f room right plus q lt = right_decides N m plus f q lt (right plus q (omega (arith, room, lt)))

pub exact_of_ready : (N : NetLists) (Ours : Family → Type 0) (m : Marking) (region : Numbers) (f : Family) → Ours f → IsReady N Ours m region
    → IsExactOutside N (before_of m region) f
exact_of_ready N Ours m region f ours ready plus q lt out =
    right_decides N m plus f q lt
    (ready.outside f ours plus q (omega (arith, ready.room, lt)) (λ h. true≢false (sym ((inside_decides region.members q).1 h) ∙ out)))

-- a solved family is right whose marks in the region are those of the nodes that have fired
pub written_right : (N : NetLists) (Ours : Family → Type 0) (f : Family) (ours : Ours f) (region : Numbers) (Fired : Bool → ℕ → Type 0) (old new : Marking)
    → IsReady N Ours old region → All (λ q. q < region.bound) region.members → IsSolved N region.members Fired f
    → ((plus : Bool) (n : ℕ) → Contains region.members n → (marked new (tag_of plus f) n ≡ true) ↔ Fired plus n)
    → ((plus : Bool) (n : ℕ) → (¬ Contains region.members n) → marked new (tag_of plus f) n ≡ marked old (tag_of plus f) n)
    → places new ≡ places old → IsRight N new f
written_right N Ours f ours region Fired old new ready below solved within out same plus n lt = elim (member_or_not region.members n) [
  | inl here ↦
      let named : n < length N.names = omega (arith, All-contains (λ q. q < region.bound) region.members n below here, ready.bound) in
      let w = within plus n here in
      let s = solved plus n here in
      decides_right N new plus f n named (λ e. s.0 (w.0 e), λ h. w.1 (s.1 h))
  | inr never ↦ right_alike N old new plus f n (out plus n never) (ready.outside f ours plus n (omega (arith, lt, same)) never)
]

-- the nodes of the members of a region have a place
pub nodes_fit : (s kind places need bound : ℕ) (members : List ℕ) → kind < s → All (λ q. q < bound) members → bound ≤ places → need ≡ places * s
    → All (λ q. q * s + kind < need) members
nodes_fit s kind places need bound members small h fits size k d lt =
    subst (λ (n : ℕ). get_or members k d * s + kind < n) (sym size)
    (node_inside s places (get_or members k d) kind small (omega (arith, h k d lt, fits)))
