-- What a theory has, a theory that is a part of it may get.
use Rattle.std.proofs.Common.{◌≡◌, ℕ, ◌+◌, ◌<◌, List, [], ◌∷◌, ◌++◌, Some, Result, Ok, Err, length, map, take, get_or, inl, inr, sym, subst, ap, ◌∙◌, arith}
use Rattle.std.specs.Prelude.{IfOk, OnOk, All, Contains, slice_get, slice_index_or}
use Rattle.std.proofs.lemmas.List.{length-map, map-id, length-take-le, take_more}
use Rattle.std.proofs.lemmas.List.Elements.{All-cons, All-contains, All-take, Contains-get_or, Contains-append_cases, Contains-append_left, Contains-push, Contains-push_cases}
use Rattle.std.proofs.lemmas.Option.{slice_get_within, get_or_from_slice_get}
use Rattle.dl_base.specs.Paths.{IsDistinct, IsPath}
use Rattle.dl_base.proofs.Members.{only, Contains-mapped, mapped_from}
use Rattle.dl_base.proofs.Distinct.{no_longer, distinct_cons, distinct_head, distinct_tail, distinct_front}
use Rattle.dl_base.proofs.PathLemmas.{path_more}
use Rattle.dl_lit.specs.declared.literal.Literal.{Literal}
use Rattle.dl_theory.specs.declared.rule.Rule.{Rule}
use Rattle.dl_theory.specs.declared.rule.Pair.{Pair}
use Rattle.dl_theory.specs.declared.edit.Edit.TheVariants.{AddRule, AddFact, AddPair}
use Rattle.dl_theory.specs.declared.edit.EditRefusal.{EditRefusal}
use Rattle.dl_theory.specs.declared.edit.EditRefusal.TheVariants.{NoLabel, LabelThere, FactThere, PairThere, Cycle, RulesFull, FactsFull, PairsFull}
use Rattle.dl_theory.specs.Lists.{TheoryLists, labels, IsWellFormed, IsAbove}
use Rattle.dl_theory.specs.Edits.{IsRefused, HasLabel, HasBoth, StopsAtPair, additions, after_edits}
use Rattle.dl_theory.proofs.Additions.{after_additions}
use Rattle.dl_derive.specs.Part.{Adds, AddsIf}

pub adds_push : {A : Type 0} (x : A) (old new : List A) → new ≡ old ++ x ∷ [] → Adds x old new
adds_push {A} x old new e = λ y. (
  λ m. elim (Contains-push_cases old x y (subst (λ (l : List A). Contains l y) e m)) [ inl there ↦ inl there | inr same ↦ inr (sym same) ],
  λ h. subst (λ (l : List A). Contains l y) (sym e) (elim h [
    | inl m ↦ Contains-append_left old (x ∷ []) y m
    | inr same ↦ subst (λ (z : A). Contains (old ++ x ∷ []) z) (sym same) (Contains-push old x)
  ]),
)

pub adds_there : {A : Type 0} (x : A) (old new : List A) → new ≡ old → Contains old x → Adds x old new
adds_there {A} x old new e there = λ y. (
  λ m. inl (subst (λ (l : List A). Contains l y) e m),
  λ h. subst (λ (l : List A). Contains l y) (sym e) (elim h [
    | inl m ↦ m
    | inr same ↦ subst (λ (z : A). Contains old z) (sym same) there
  ]),
)

pub adds_if : {A : Type 0} (P : A → Type 0) (x : A) (old new : List A) → P x → Adds x old new → AddsIf P x old new
adds_if {A} P x old new px adds = λ y. (
  λ m. elim ((adds y).0 m) [ inl there ↦ inl there | inr same ↦ inr (same, subst P (sym same) px) ],
  λ h. (adds y).1 (elim h [ inl there ↦ inl there | inr k ↦ inr k.0 ]),
)

pub adds_none : {A : Type 0} (P : A → Type 0) (x : A) (old : List A) → (¬ P x) → AddsIf P x old old
adds_none P x old never = λ y. (
  λ m. inl m,
  λ h. elim h [ inl there ↦ there | inr k ↦ absurd (never (subst P k.0 k.1)) ],
)

pub if_ok : {A E : Type 0} {P Q : A → Type 0} (r : Result A E) → ((x : A) → P x → Q x) → IfOk r P → IfOk r Q
if_ok (Ok x) f h = f x h
if_ok (Err x) f h = tt

pub on_ok : {A E : Type 0} {P Q : Type 0} (r : Result A E) → (P → Q) → OnOk r P → OnOk r Q
on_ok (Ok x) f h = f h
on_ok (Err x) f h = tt

-- one more member of a front
pub front_grows : {A : Type 0} (xs : List A) (at : ℕ) (x : A) → slice_get xs at ≡ Some x → take (at + 1) xs ≡ take at xs ++ x ∷ []
front_grows {A} xs at x stands =
    take_more xs at x (slice_get_within xs at x stands)
    ∙ ap (λ (y : A). take at xs ++ y ∷ []) (get_or_from_slice_get xs at x x stands)

-- the member at a place is none of those before it, in a list without repeats
pub not_before : {A : Type 0} (xs : List A) (at : ℕ) (x : A) → IsDistinct xs → slice_get xs at ≡ Some x → ¬ Contains (take at xs) x
not_before {A} xs at x distinct stands m =
    let here : get_or xs at x ≡ x = get_or_from_slice_get xs at x x stands in
    distinct_front (λ (y : A). y) xs at x (subst (λ (l : List A). IsDistinct l) (sym (map-id xs)) distinct) (slice_get_within xs at x stands)
    (subst (λ (l : List A). Contains l (get_or xs at x)) (sym (map-id (take at xs))) (subst (Contains (take at xs)) (sym here) m))

-- members with one image are one, where the images are distinct
pub one_image : {A B : Type 0} (f : A → B) (xs : List A) → IsDistinct (map f xs) → (x y : A) → Contains xs x → Contains xs y → f x ≡ f y → x ≡ y
one_image f [] distinct x y m n e = absurd (omega (arith, m.1))
one_image {A} {B} f (z ∷ zs) distinct x y m n e =
    elim (Contains-append_cases (z ∷ []) zs x m) [
      | inl first ↦ elim (Contains-append_cases (z ∷ []) zs y n) [
        | inl second ↦ only z x first ∙ sym (only z y second)
        | inr later ↦
            absurd (distinct_head (f z) (map f zs) distinct
            (subst (λ (v : B). Contains (map f zs) v) (sym e ∙ ap f (only z x first)) (Contains-mapped f zs y later)))
      ]
      | inr there ↦ elim (Contains-append_cases (z ∷ []) zs y n) [
        | inl second ↦
            absurd (distinct_head (f z) (map f zs) distinct
            (subst (λ (v : B). Contains (map f zs) v) (e ∙ ap f (only z y second)) (Contains-mapped f zs x there)))
        | inr later ↦ one_image f zs (distinct_tail (f z) (map f zs) distinct) x y there later e
      ]
    ]

module _ (T P : TheoryLists) (whole : IsWellFormed T) (small : IsWellFormed P) where
  pub fact_fits : (q : Literal) → All (Contains T.facts) P.facts → Contains T.facts q → (¬ Contains P.facts q) → (x : EditRefusal) → ¬ IsRefused P (AddFact q) x
  fact_fits q within there new FactThere c = new c
  fact_fits q within there new FactsFull c =
      omega (
        arith,
        c.1,
        whole.few_facts,
        no_longer (q ∷ P.facts) T.facts (distinct_cons q P.facts new small.facts_distinct) (All-cons (Contains T.facts) q P.facts there within),
      )
  fact_fits q within there new _ c = c

  labels_within : All (Contains T.rules) P.rules → All (Contains (labels T)) (labels P)
  labels_within within = λ k d lt.
      let m = mapped_from (λ (r : Rule). r.label) P.rules (get_or (labels P) k d) (Contains-get_or (labels P) k d lt) in
      subst (Contains (labels T)) m.2 (Contains-mapped (λ (r : Rule). r.label) T.rules m.0 (All-contains (Contains T.rules) P.rules m.0 within m.1))

  pub rule_fits : (r : Rule) → All (Contains T.rules) P.rules → Contains T.rules r → (¬ HasLabel P r.label) → (x : EditRefusal) → ¬ IsRefused P (AddRule r) x
  rule_fits r within there new (LabelThere label) c = new c.1
  rule_fits r within there new RulesFull c =
      omega (
        arith,
        c.1,
        whole.few_rules,
        length-map P.rules (λ (u : Rule). u.label),
        length-map T.rules (λ (u : Rule). u.label),
        no_longer (r.label ∷ labels P) (labels T) (distinct_cons r.label (labels P) new small.labels_distinct)
            (All-cons (Contains (labels T)) r.label (labels P) (Contains-mapped (λ (u : Rule). u.label) T.rules r there) (labels_within within)),
      )
  rule_fits r within there new _ c = c

  pub label_there : (label : List ℕ) (at : ℕ) → at < length P.rules → slice_index_or (labels P) at [] ≡ label → HasLabel P label
  label_there label at lt e =
      subst (Contains (labels P)) e
      (Contains-get_or (labels P) at [] (omega (arith, lt, length-map P.rules (λ (u : Rule). u.label))))

  -- a rule whose label is there is there itself
  pub rule_there : (r : Rule) → All (Contains T.rules) P.rules → Contains T.rules r → HasLabel P r.label → Contains P.rules r
  rule_there r within there m =
      let found = mapped_from (λ (u : Rule). u.label) P.rules r.label m in
      subst (Contains P.rules)
      (one_image (λ (u : Rule). u.label) T.rules whole.labels_distinct found.0 r (All-contains (Contains T.rules) P.rules found.0 within found.1) there found.2)
      found.1

module _ (T P : TheoryLists) (whole : IsWellFormed T) (none : P.pairs ≡ []) (pairs : List Pair) (distinct : IsDistinct pairs)
    (within : All (Contains T.pairs) pairs) (labelled : All (HasBoth P) pairs) where
  pub pairs_after : (ps : List Pair) → (after_edits P (additions ps)).pairs ≡ ps
  pairs_after ps = ap (λ (U : TheoryLists). U.pairs) (after_additions P ps) ∙ ap (λ (l : List Pair). l ++ ps) none

  labels_after : (ps : List Pair) → labels (after_edits P (additions ps)) ≡ labels P
  labels_after ps = ap labels (after_additions P ps)

  module _ (at : ℕ) (p : Pair) (stands : slice_get pairs at ≡ Some p) where
    place : at < length pairs
    place = slice_get_within pairs at p stands

    here : get_or pairs at p ≡ p
    here = get_or_from_slice_get pairs at p p stands

    member : Contains pairs p
    member = (at, place, here)

    fewer : (x y : List ℕ) → IsAbove (take at pairs) x y → IsAbove T.pairs x y
    fewer x y m =
        All-contains (Contains T.pairs) (take at pairs) (record { upper = x; lower = y }) (All-take (Contains T.pairs) at pairs within) m

    no_path : (path : List (List ℕ)) → ¬ IsPath (IsAbove (take at pairs)) p.lower p.upper path
    no_path path is =
        whole.acyclic (record {
          first = p.lower;
          last = p.upper;
          path = path;
          is_path = path_more (IsAbove (take at pairs)) (IsAbove T.pairs) fewer p.lower p.upper path is;
          closes = All-contains (Contains T.pairs) pairs p within member;
        })

    few : length (take at pairs) < 1000000
    few = omega (arith, place, length-take-le at pairs (omega (arith, place)), no_longer pairs T.pairs distinct within, whole.few_pairs)

    both : HasBoth P p
    both = All-contains (HasBoth P) pairs p labelled member

    pub pair_fits : (U : TheoryLists) → labels U ≡ labels P → U.pairs ≡ take at pairs → (x : EditRefusal) → ¬ IsRefused U (AddPair p) x
    pair_fits U same is (NoLabel label) (inl c) = c.1 (subst (λ (l : List (List ℕ)). Contains l p.upper) (sym same) both.0)
    pair_fits U same is (NoLabel label) (inr c) = c.2 (subst (λ (l : List (List ℕ)). Contains l p.lower) (sym same) both.1)
    pair_fits U same is PairThere c = not_before pairs at p distinct stands (subst (λ (l : List Pair). Contains l p) is c.2)
    pair_fits U same is (Cycle path) c = no_path path (subst (λ (l : List Pair). IsPath (IsAbove l) p.lower p.upper path) is c.3)
    pair_fits U same is PairsFull c = omega (arith, few, c.4, ap length is)
    pair_fits U same is _ c = c

  pub pairs_fit : (U : TheoryLists) (at : ℕ) (x : EditRefusal) → ¬ StopsAtPair P U pairs at x
  pairs_fit U at x s =
      pair_fits at s.refused s.stands U (ap labels s.added ∙ labels_after (take at pairs))
      (ap (λ (V : TheoryLists). V.pairs) s.added ∙ pairs_after (take at pairs)) x s.cause
