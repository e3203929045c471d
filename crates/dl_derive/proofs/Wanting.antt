-- Nodes that are wanted stay so.
use Rattle.std.proofs.Common.{◌≡◌, ℕ, ◌+◌, ◌*◌, ◌/◌, ◌%◌, ◌<◌, ◌≤◌, ◌==◌, Bool, true, false, [], ◌∷◌, List, Some, length, get_or, set, inl, inr, sym, subst, ap, refl, ◌∙◌, arith, length-set, true≢false}
use Rattle.std.specs.Prelude.{Contains, slice_get}
use Rattle.std.proofs.lemmas.Bool.{cases_eq}
use Rattle.std.proofs.lemmas.Bool.Decides.{eqb_tells}
use Rattle.std.proofs.lemmas.List.{get_or-set_same, get_or-set_other, get_or_default}
use Rattle.std.proofs.lemmas.Option.{get_or_from_slice_get}
use Rattle.dl_lit.specs.declared.literal.Tag.{Tag}
use Rattle.dl_marks.specs.Marks.{Marking, marked}
use Rattle.dl_graph.specs.Counting.{times}
use Rattle.dl_graph.specs.Region.{Numbers}
use Rattle.dl_graph.specs.Numbers.{NetLists}
use Rattle.dl_fill.specs.declared.basis.Basis.{Basis}
use Rattle.dl_fill.specs.declared.basis.Basis.TheVariants.{Prevailing, Failing, Sure, Unsure, Nothing}
use Rattle.dl_fill.proofs.Written.{times_contains}
use Rattle.dl_fill.specs.Reads.{basis_at}
use Rattle.dl_derive.specs.Wanted.{IsWanted, IsMore, With, IsAtHand, IsSureFor}

pub more_none : (xs : List Bool) → IsMore xs xs
more_none xs = record { len = refl; kept = λ x w. w }

pub more_then : (a b c : List Bool) → IsMore a b → IsMore b c → IsMore a c
more_then a b c g h = record { len = h.len ∙ g.len; kept = λ x w. h.kept x (g.kept x w) }

pub more_set : (xs : List Bool) (node : ℕ) → node < length xs → IsMore xs (set xs node true)
more_set xs node lt = record {
  len = length-set _ _ _;
  kept = λ x w. elim (cases_eq x node) [
    | inl same ↦ subst (λ (v : ℕ). IsWanted (set xs node true) v) (sym same) (get_or-set_same xs node true false lt)
    | inr other ↦ get_or-set_other xs node x true false other ∙ w
  ];
}

module _ (N : NetLists) (marked : Tag → ℕ → Bool) (V W : ℕ → Type 0) (to : (x : ℕ) → V x → W x) where
  pub with_more : (basis : Basis) (q : ℕ) → With N marked V basis q → With N marked W basis q
  with_more Prevailing q h = record { sure = λ e. to _ (h.sure e); fails = λ e c m. to _ (h.fails e c m) }
  with_more Failing q h = record { unsure = to _ h.unsure; holds = λ e c m. to _ (h.holds e c m) }
  with_more Sure q h = λ e. to _ (h e)
  with_more Unsure q h = to _ h
  with_more Nothing q h = tt

-- the attackers in front of a place
abbrev pub InFrontOf : List ℕ → ℕ → ℕ → List Bool → Type 0
InFrontOf row kind at wanted = (k : ℕ) → k < at → k < length row → IsWanted wanted (get_or row k 0 * 4 + kind)

pub in_front_next : (row : List ℕ) (kind at x : ℕ) (a b : List Bool) → slice_get row at ≡ Some x → IsMore a b → IsWanted b (x * 4 + kind)
    → InFrontOf row kind at a → InFrontOf row kind (at + 1) b
in_front_next row kind at x a b e more is h = λ k before inside. elim (cases_eq k at) [
  | inl same ↦
      subst (λ (v : ℕ). IsWanted b (v * 4 + kind)) (sym (ap (λ (n : ℕ). get_or row n 0) same ∙ get_or_from_slice_get row at x 0 e)) is
  | inr other ↦ more.kept (get_or row k 0 * 4 + kind) (h k (omega (arith, before, other)) inside)
]

pub in_front_all : (row : List ℕ) (kind at : ℕ) (wanted : List Bool) → length row ≤ at → InFrontOf row kind at wanted
    → (c : ℕ) → Contains row c → IsWanted wanted (c * 4 + kind)
in_front_all row kind at wanted past h c m =
    subst (λ (v : ℕ). IsWanted wanted (v * 4 + kind)) (get_or_default row m.0 0 c m.1 ∙ m.2) (h m.0 (omega (arith, m.1, past)) m.1)

-- the nodes in front of a place
module _ (Q : List Bool → ℕ → Type 0) (grows : (a b : List Bool) → IsMore a b → (y : ℕ) → Q a y → Q b y) where
  abbrev pub EachBefore : List ℕ → ℕ → List Bool → Type 0
  EachBefore nodes at wanted = (k : ℕ) → k < at → k < length nodes → Q wanted (get_or nodes k 0)

  pub each_next : (nodes : List ℕ) (at : ℕ) (a b : List Bool) → IsMore a b → Q b (get_or nodes at 0) → EachBefore nodes at a → EachBefore nodes (at + 1) b
  each_next nodes at a b more is h = λ k before inside. elim (cases_eq k at) [
    | inl same ↦ subst (λ (n : ℕ). Q b (get_or nodes n 0)) (sym same) is
    | inr other ↦ grows a b more (get_or nodes k 0) (h k (omega (arith, before, other)) inside)
  ]

  pub each_all : (nodes : List ℕ) (at : ℕ) (wanted : List Bool) → length nodes ≤ at → EachBefore nodes at wanted → (y : ℕ) → 0 < times y nodes → Q wanted y
  each_all nodes at wanted past h y m =
      let c = times_contains y nodes m in
      subst (Q wanted) (get_or_default nodes c.0 0 y c.1 ∙ c.2) (h c.0 (omega (arith, c.1, past)) c.1)

-- gates that read nothing need no node
pub none_for : (N : NetLists) (m : Marking) (region : Numbers) (width : ℕ) (bases : List Basis) (nodes : List ℕ) → bases ≡ []
    → IsSureFor N m region width bases nodes []
none_for N m region width bases nodes none = record {
  ordered = record { passing = tt; here = λ y h. absurd (omega (arith, h)) };
  has = λ y h inside. subst (λ (bs : List Basis). With N (marked m) (IsAtHand N region.members []) (basis_at bs (y % width)) (y / width)) (sym none) tt;
}

pub no_members : {A : Type 0} (xs : List A) (empty : Bool) → empty ≡ (length xs == 0) → empty ≡ true → xs ≡ []
no_members [] empty e h = refl
no_members (x ∷ xs) empty e h = elim (eqb_tells (length (x ∷ xs)) 0) [
  | inl none ↦ absurd (omega (arith, none.1))
  | inr some ↦ absurd (true≢false (sym h ∙ e ∙ some.0))
]

pub some_member : {A : Type 0} (xs : List A) (empty : Bool) → empty ≡ (length xs == 0) → empty ≡ false → ¬ (xs ≡ [])
some_member {A} xs empty e h = λ none. true≢false (sym (e ∙ ap (λ (l : List A). length l == 0) none) ∙ h)
