-- Nodes each of which is passed by nodes before it, read as tagged literals, are a derivation, within literals and families that are
-- enough by themselves, behind a derivation of what their gates read.
use Rattle.std.proofs.Common.{◌≡◌, ℕ, ◌+◌, ◌*◌, ◌/◌, ◌%◌, ◌<◌, Bool, true, false, cond, Option, None, Some, List, [], ◌∷◌, ◌++◌, length, get_or, inl, inr, sym, subst, ap, refl, ◌∙◌, arith, append_assoc}
use Rattle.std.specs.Prelude.{All, Contains, MatchOption}
use Rattle.std.proofs.lemmas.Bool.{cases_eq}
use Rattle.std.proofs.lemmas.List.{append-nil}
use Rattle.std.proofs.lemmas.List.Concat.{flat_map-cons}
use Rattle.std.proofs.lemmas.Grind.{flat_map-append}
use Rattle.std.proofs.lemmas.List.Elements.{Contains-get_or, Contains-append_cases, Contains-append_left, Contains-append_right}
use Rattle.dl_base.proofs.Members.{only}
use Rattle.dl_lit.specs.declared.literal.Literal.{Literal}
use Rattle.dl_lit.specs.declared.literal.Tagged.{Tagged}
use Rattle.dl_lit.specs.declared.literal.Tag.{Tag}
use Rattle.dl_lit.specs.declared.literal.Family.{Family}
use Rattle.dl_lit.specs.declared.literal.Family.TheVariants.{Definite, Blocking, Propagating, Support}
use Rattle.dl_lit.specs.Literal.{tagged}
use Rattle.dl_theory.specs.Conditions.{Meets}
use Rattle.dl_theory.specs.Derivations.{Derives}
use Rattle.dl_theory.proofs.Within.{IsClosedUnder, meets_more}
use Rattle.dl_theory.proofs.Steps.{derives_join}
use Rattle.dl_graph.specs.Counting.{times}
use Rattle.dl_graph.specs.Numbers.{NetLists, IsNumbered, number, literal_at}
use Rattle.dl_fill.specs.declared.wire.Gate.{Gate}
use Rattle.dl_fill.specs.Gates.{Passes}
use Rattle.dl_fill.specs.Passing.{Passing}
use Rattle.dl_fill.specs.Before.{Before}
use Rattle.dl_fill.specs.declared.basis.Basis.{Basis}
use Rattle.dl_fill.specs.Reads.{Reads, basis_at}
use Rattle.dl_fill.specs.Steps.{tag_at, with_tag, step_of, steps_of}
use Rattle.dl_fill.proofs.Times.{times_cons_same, times_cons_other, times_push_other}
use Rattle.dl_fill.proofs.Nodes.{node_parts}
use Rattle.dl_fill.proofs.InOrder.{passes_more}

abbrev pub IsDefinite : Family → Type 0
IsDefinite Definite = Unit {0}
IsDefinite Blocking = ⊥
IsDefinite Propagating = ⊥
IsDefinite Support = ⊥

-- what is known of a node: one of a literal is in the region, and what its gate reads was derived before
abbrev pub Knows : NetLists → Before → ℕ → ℕ → List Basis → List Tagged → ℕ → Type 0
Knows N b s literals bases D y =
    (y % s < literals → b.inside (y / s) ≡ true) × Reads N b (λ plus c. Contains D (tagged plus Definite c)) (y / s) (basis_at bases (y % s))

module _ (N : NetLists) (s : ℕ) (tags : List (Option Tag)) (inside : ℕ → Bool) where
  abbrev Step : ℕ → List Tagged
  Step = step_of N s tags inside

  abbrev Steps : List ℕ → List Tagged
  Steps = steps_of N s tags inside

  -- what a node inside that stands for a tag is read as
  pub step_is : (y : ℕ) (t : Tag) → inside (y / s) ≡ true → tag_at tags (y % s) ≡ Some t
      → step_of N s tags inside y ≡ tagged t.plus t.family (literal_at N (y / s)) ∷ []
  step_is y t e f =
      ap (λ (b : Bool). cond b (with_tag (tag_at tags (y % s)) (literal_at N (y / s))) []) e ∙ ap (λ (o : Option Tag). with_tag o (literal_at N (y / s))) f

  -- a node that is read as a tagged literal
  pub record IsRead (y : ℕ) (x : Tagged) : Type 0 where
    pub tag : Tag
    pub kind : tag_at tags (y % s) ≡ Some tag
    pub here : inside (y / s) ≡ true
    pub is : x ≡ tagged tag.plus tag.family (literal_at N (y / s))

  read_by : (y : ℕ) (x : Tagged) (b : Bool) (o : Option Tag) → inside (y / s) ≡ b → tag_at tags (y % s) ≡ o
      → Contains (cond b (with_tag o (literal_at N (y / s))) []) x → IsRead y x
  read_by y x true None e f m = absurd (omega (arith, m.1))
  read_by y x true (Some t) e f m = record { tag = t; kind = f; here = e; is = only (tagged t.plus t.family (literal_at N (y / s))) x m }
  read_by y x false o e f m = absurd (omega (arith, m.1))

  pub step_read : (y : ℕ) (x : Tagged) → Contains (step_of N s tags inside y) x → IsRead y x
  step_read y x m = read_by y x (inside (y / s)) (tag_at tags (y % s)) refl refl m

  pub steps_read : (nodes : List ℕ) (x : Tagged) → Contains (steps_of N s tags inside nodes) x → (y : ℕ) × (0 < times y nodes) × IsRead y x
  steps_read [] x m = absurd (omega (arith, m.1))
  steps_read (z ∷ zs) x m =
      elim (Contains-append_cases (Step z) (Steps zs) x (subst (λ (l : List Tagged). Contains l x) (flat_map-cons Step z zs) m)) [
        | inl first ↦ (z, omega (arith, times_cons_same z z zs refl), step_read z x first)
        | inr later ↦
            let r = steps_read zs x later in
            (r.0, omega (arith, r.1), r.2)
      ]

  pub steps_push : (nodes : List ℕ) (y : ℕ) → steps_of N s tags inside (nodes ++ y ∷ []) ≡ steps_of N s tags inside nodes ++ step_of N s tags inside y
  steps_push nodes y =
      flat_map-append Step nodes (y ∷ [])
      ∙ ap (λ (xs : List Tagged). Steps nodes ++ xs) (flat_map-cons Step y [] ∙ append-nil (Step y))

  -- what a node of the list is read as
  pub steps_have : (nodes : List ℕ) (y : ℕ) (t : Tag) → 0 < times y nodes → inside (y / s) ≡ true → tag_at tags (y % s) ≡ Some t
      → Contains (steps_of N s tags inside nodes) (tagged t.plus t.family (literal_at N (y / s)))
  steps_have [] y t m e f = absurd (omega (arith, m))
  steps_have (z ∷ zs) y t m e f =
      subst (λ (xs : List Tagged). Contains xs (tagged t.plus t.family (literal_at N (y / s)))) (sym (flat_map-cons Step z zs))
      (elim (cases_eq y z) [
        | inl same ↦
            Contains-append_left (Step z) (Steps zs) (tagged t.plus t.family (literal_at N (y / s)))
            (subst (λ (v : ℕ). Contains (Step v) (tagged t.plus t.family (literal_at N (y / s)))) same
            (subst (λ (xs : List Tagged). Contains xs (tagged t.plus t.family (literal_at N (y / s)))) (sym (step_is y t e f)) (0, omega arith, refl)))
        | inr other ↦
            Contains-append_right (Step z) (Steps zs) (tagged t.plus t.family (literal_at N (y / s)))
            (steps_have zs y t (omega (arith, m, times_cons_other y z zs other)) e f)
      ])

  -- a list that ends with a node ends with what that is read as
  pub steps_end : (before : List ℕ) (y : ℕ) (t : Tag) → inside (y / s) ≡ true → tag_at tags (y % s) ≡ Some t
      → steps_of N s tags inside (before ++ y ∷ []) ≡ steps_of N s tags inside before ++ tagged t.plus t.family (literal_at N (y / s)) ∷ []
  steps_end before y t e f = steps_push before y ∙ ap (λ (xs : List Tagged). Steps before ++ xs) (step_is y t e f)

  module _ (numbered : IsNumbered N) (pos : 0 < s) (F : Family → Type 0) (R : Literal → Type 0) (closed : IsClosedUnder N.theory F R) (D : List Tagged)
      (inputs : ℕ → List ℕ) (gate : ℕ → Gate) (M : (Tagged → Type 0) → ℕ → Type 0) (Known : ℕ → Type 0)
      (kind : Family → Bool → ℕ) where
    -- what the nodes of a family do, where `got` has what was derived before, M says what a node means by it, Known that what its
    -- gate reads was derived before, and `kind` which nodes stand for a tag
    pub record IsFamily : Type 1 where
      pub region : (q : ℕ) → inside q ≡ true → (q < length N.names) × R (literal_at N q)
      pub ours : (k : ℕ) → MatchOption (tag_at tags k) (Unit {0}) (λ t. F t.family)
      pub apart : (k : ℕ) → MatchOption (tag_at tags k) (Unit {0}) (λ t. kind t.family t.plus ≡ k)
      pub fresh : (k : ℕ) → MatchOption (tag_at tags k) (Unit {0}) (λ t. (q : Literal) → ¬ Contains D (tagged t.plus t.family q))
      pub concludes : (got : Tagged → Type 0) → ((x : Tagged) → (R x.literal → Contains D x) → got x) → (y : ℕ) → Known y
          → Passes (M got) (gate y) (inputs y)
          → MatchOption (tag_at tags (y % s)) (M got y)
          (λ t. (inside (y / s) ≡ true) × (y / s < length N.names) × Meets N.theory got (tagged t.plus t.family (literal_at N (y / s))))
      pub means : (got : Tagged → Type 0) → (y : ℕ)
          → MatchOption (tag_at tags (y % s)) (Unit {0})
          (λ t. inside (y / s) ≡ true → y / s < length N.names → got (tagged t.plus t.family (literal_at N (y / s))) → M got y)

    module _ (family : IsFamily) where
      -- all that is read is of the families and the region
      pub read_matters : (nodes : List ℕ) → All (λ x. R x.literal × F x.family) (steps_of N s tags inside nodes)
      read_matters nodes k d lt =
          let x : Tagged = get_or (Steps nodes) k d in
          let r = (steps_read nodes (get_or (Steps nodes) k d) (Contains-get_or (Steps nodes) k d lt)).2 in
          subst (λ (x : Tagged). R x.literal × F x.family) (sym r.is) (
            (family.region _ r.here).1,
            subst (λ (o : Option Tag). MatchOption o (Unit {0}) (λ t. F t.family)) r.kind (family.ours _),
          )

      -- what counts as derived where these nodes have been read: what matters and has been read, and what does not matter
      abbrev Got : List ℕ → Tagged → Type 0
      Got nodes x = R x.literal → Contains (D ++ Steps nodes) x

      abbrev AllMean : List ℕ → Type 1
      AllMean nodes = (got : Tagged → Type 0) → ((x : Tagged) → Got nodes x → got x) → (y : ℕ) → 0 < times y nodes → M got y

      module _ (before : List ℕ) (all : AllMean before) (y : ℕ) (known_y : Known y) (new : times y before ≡ 0) (passes : Passes (λ x. 0 < times x before) (gate y) (inputs y)) where
        passes_by : (got : Tagged → Type 0) → ((x : Tagged) → Got before x → got x) → Passes (M got) (gate y) (inputs y)
        passes_by got has = passes_more (λ x. 0 < times x before) (M got) (λ x m. all got has x m) (gate y) (inputs y) passes

        concluded : (got : Tagged → Type 0) → ((x : Tagged) → Got before x → got x)
            → MatchOption (tag_at tags (y % s)) (M got y)
            (λ t. (inside (y / s) ≡ true) × (y / s < length N.names) × Meets N.theory got (tagged t.plus t.family (literal_at N (y / s))))
        concluded got has =
            family.concludes got (λ x h. has x (λ r. Contains-append_left D (Steps before) x (h r))) y known_y (passes_by got has)

        -- two nodes that are read as one are one
        same_node : (t : Tag) → tag_at tags (y % s) ≡ Some t → inside (y / s) ≡ true → (z : ℕ)
            → IsRead z (tagged t.plus t.family (literal_at N (y / s))) → z ≡ y
        same_node t e here z r =
            let mine : kind t.family t.plus ≡ y % s =
            subst (λ (o : Option Tag). MatchOption o (Unit {0}) (λ u. kind u.family u.plus ≡ y % s)) e (family.apart (y % s)) in
            let its : kind r.tag.family r.tag.plus ≡ z % s =
            subst (λ (o : Option Tag). MatchOption o (Unit {0}) (λ u. kind u.family u.plus ≡ z % s)) r.kind (family.apart (z % s)) in
            let kinds : z % s ≡ y % s = sym its ∙ ap (λ (x : Tagged). kind x.family x.plus) (sym r.is) ∙ mine in
            let places : z / s ≡ y / s =
            sym (numbered.distinct (z / s) (family.region (z / s) r.here).0)
            ∙ ap (λ (x : Tagged). number N x.literal) (sym r.is)
            ∙ numbered.distinct (y / s) (family.region (y / s) here).0 in
            sym (node_parts s z pos) ∙ ap (λ (n : ℕ). n * s + z % s) places ∙ ap (λ (n : ℕ). y / s * s + n) kinds ∙ node_parts s y pos

        first_by : (b : Bool) (o : Option Tag) → inside (y / s) ≡ b → tag_at tags (y % s) ≡ o
            → Derives N.theory (D ++ Steps before) (cond b (with_tag o (literal_at N (y / s))) [])
        first_by true None e f = tt
        first_by true (Some t) e f =
            let x : Tagged = tagged t.plus t.family (literal_at N (y / s)) in
            let c = subst (λ (o : Option Tag). MatchOption o (M (Got before) y)
            (λ t. (inside (y / s) ≡ true) × (y / s < length N.names) × Meets N.theory (Got before) (tagged t.plus t.family (literal_at N (y / s)))))
            f (concluded (Got before) (λ z g. g)) in
            let r = family.region (y / s) e in
            let ours : F t.family = subst (λ (o : Option Tag). MatchOption o (Unit {0}) (λ t. F t.family)) f (family.ours (y % s)) in (
              λ m. elim (Contains-append_cases D (Steps before) (tagged t.plus t.family (literal_at N (y / s))) m) [
                | inl old ↦
                    subst (λ (o : Option Tag). MatchOption o (Unit {0}) (λ t. (q : Literal) → ¬ Contains D (tagged t.plus t.family q))) f (family.fresh (y % s))
                    (literal_at N (y / s)) old
                | inr read ↦
                    let z = steps_read before (tagged t.plus t.family (literal_at N (y / s))) read in
                    let there : 0 < times y before = subst (λ (v : ℕ). 0 < times v before) (same_node t f e z.0 z.2) z.1 in
                    omega (arith, there, new)
              ],
              meets_more N.theory F R closed (Got before) (Contains (D ++ Steps before)) (λ z fam inR g. g inR)
                  (tagged t.plus t.family (literal_at N (y / s))) ours r.1 c.2,
              tt,
            )
        first_by false o e f = tt

        pub first : Derives N.theory (D ++ Steps before) (Step y)
        first = first_by (inside (y / s)) (tag_at tags (y % s)) refl refl

        grown : D ++ Steps (before ++ y ∷ []) ≡ (D ++ Steps before) ++ Step y
        grown = ap (λ (xs : List Tagged). D ++ xs) (steps_push before y) ∙ sym (append_assoc D (Steps before) (Step y))

        got_more : (x : Tagged) → Got before x → Got (before ++ y ∷ []) x
        got_more x g r =
            subst (λ (xs : List Tagged). Contains xs x) (sym grown) (Contains-append_left (D ++ Steps before) (Step y) x (g r))

        -- its own meaning
        own_by : (got : Tagged → Type 0) → ((x : Tagged) → Got (before ++ y ∷ []) x → got x) → (o : Option Tag) → tag_at tags (y % s) ≡ o → M got y
        own_by got has None f =
            subst (λ (o : Option Tag). MatchOption o (M got y)
            (λ t. (inside (y / s) ≡ true) × (y / s < length N.names) × Meets N.theory got (tagged t.plus t.family (literal_at N (y / s)))))
            f (concluded got (λ x g. has x (got_more x g)))
        own_by got has (Some t) f =
            let c = subst (λ (o : Option Tag). MatchOption o (M got y)
            (λ t. (inside (y / s) ≡ true) × (y / s < length N.names) × Meets N.theory got (tagged t.plus t.family (literal_at N (y / s)))))
            f (concluded got (λ x g. has x (got_more x g))) in
            subst (λ (o : Option Tag). MatchOption o (Unit {0}) (λ t. inside (y / s) ≡ true → y / s < length N.names → got (tagged t.plus t.family (literal_at N (y / s))) → M got y))
            f (family.means got y) c.0 c.1
            (has (tagged t.plus t.family (literal_at N (y / s)))
            (λ r.
            let there : Contains (Step y) (tagged t.plus t.family (literal_at N (y / s))) =
            subst (λ (xs : List Tagged). Contains xs (tagged t.plus t.family (literal_at N (y / s)))) (sym (step_is y t c.0 f)) (0, omega arith, refl) in
            subst (λ (xs : List Tagged). Contains xs (tagged t.plus t.family (literal_at N (y / s)))) (sym grown)
            (Contains-append_right (D ++ Steps before) (Step y) (tagged t.plus t.family (literal_at N (y / s))) there)))

        pub all_mean : AllMean (before ++ y ∷ [])
        all_mean got has x m = elim (cases_eq x y) [
          | inl same ↦ subst (M got) (sym same) (own_by got has (tag_at tags (y % s)) refl)
          | inr other ↦ all got (λ z g. has z (got_more z g)) x (omega (arith, m, times_push_other x y before other))
        ]

      pub derives : (before rest : List ℕ) → AllMean before → ((y : ℕ) → 0 < times y rest → Known y) → Passing inputs gate before rest
          → Derives N.theory (D ++ Steps before) (steps_of N s tags inside rest)
      derives before [] all knows p = tt
      derives before (y ∷ rest) all knows p =
          let mine : Known y = knows y (omega (arith, times_cons_same y y rest refl)) in
          subst (λ (xs : List Tagged). Derives N.theory (D ++ Steps before) xs) (sym (flat_map-cons Step y rest))
          (derives_join N.theory (D ++ Steps before) (Step y) (Steps rest) (first before all y mine p.0 p.1)
          (subst (λ (xs : List Tagged). Derives N.theory xs (Steps rest)) (grown before all y mine p.0 p.1)
          (derives (before ++ y ∷ []) rest (all_mean before all y mine p.0 p.1) (λ z m. knows z (omega (arith, m))) p.2)))

      -- from the start
      pub read_derives : (nodes : List ℕ) → ((y : ℕ) → 0 < times y nodes → Known y) → Passing inputs gate [] nodes → Derives N.theory D (steps_of N s tags inside nodes)
      read_derives nodes knows p =
          subst (λ (xs : List Tagged). Derives N.theory xs (Steps nodes)) (append-nil D)
          (derives [] nodes (λ got has y m. absurd (omega (arith, m))) knows p)
