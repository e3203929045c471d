-- The cones of edits where no rule has a body, and the literals that are new.
use Rattle.std.proofs.Common.{◌≡◌, ℕ, ◌+◌, ◌≤◌, Bool, true, false, not, List, [], ◌∷◌, inl, inr, ◌⊎◌, refl, sym, ap, subst, arith, ◌∙◌}
use Rattle.std.specs.Prelude.{All, Contains}
use Rattle.std.proofs.lemmas.List.Elements.{All-nil, All-cons, All-contains, Contains-append_cases}
use Rattle.dl_base.proofs.Distinct.{distinct_nil, distinct_cons}
use Rattle.dl_base.proofs.Members.{only}
use Rattle.dl_lit.specs.declared.literal.Literal.{Literal}
use Rattle.dl_lit.specs.Literal.{complement}
use Rattle.dl_theory.specs.declared.rule.Rule.{Rule}
use Rattle.dl_theory.specs.declared.edit.Edit.{Edit}
use Rattle.dl_theory.specs.Lists.{TheoryLists}
use Rattle.dl_theory.specs.Listings.{Mentions}
use Rattle.dl_theory.specs.Edits.{after_edit, IsAccepted}
use Rattle.dl_theory.specs.Verdicts.{Reaches}
use Rattle.dl_theory.specs.Cones.{IsOrAttacks, IsSeed, RaisesTo, Cone}
use Rattle.dl_theory.proofs.Closure.{complement_twice}
use Rattle.dl_theory.proofs.Deciding.{literal_in}
use Rattle.dl_graph.specs.Named.{IsNear}
use Rattle.dl_update.specs.Drafts.{IsNew}
use Rattle.dl_update.specs.Bound.{IsOnce, IsWithinCone}
use Rattle.dl_logic_tests.specs.Costs.{a, b, c, label, rule, two_rules, fact_a, rule_c, pair_apart, rule_again}

abbrev IsBare : TheoryLists → Type 0
IsBare U = All (λ r. r.body ≡ []) U.rules

raises_nothing : (U : TheoryLists) → IsBare U → (x y : Literal) → ¬ RaisesTo U x y
raises_nothing U bare x y h =
    let m = subst (λ (xs : List Literal). Contains xs x) (All-contains (λ r. r.body ≡ []) U.rules h.1 bare (h.0, h.2, h.3)) h.4.0 in
    absurd (omega (arith, m.1))

-- where no rule has a body, the cone has no more than its seeds
seeds_alone : (T : TheoryLists) (e : Edit) → IsBare T → IsBare (after_edit T e) → (q : Literal) → Cone T e q → IsSeed T e q
seeds_alone T e before after q cone = go q cone.1 where
  go : (x : Literal) → Reaches (IsSeed T e) (λ b c. RaisesTo T b c ⊎ RaisesTo (after_edit T e) b c) x → IsSeed T e x
  go x (Reaches.start _ s) = s
  go y (Reaches.step x _ r (inl h)) = absurd (raises_nothing T before x y h)
  go y (Reaches.step x _ r (inr h)) = absurd (raises_nothing (after_edit T e) after x y h)

not_own : (b : Bool) → ¬ (b ≡ not b)
not_own true e = absurd cc
not_own false e = absurd cc

-- a literal and its complement, each once
both_once : (P : Literal → Type 0) (q : Literal) → P q → P (complement q) → ((x : Literal) → P x → (x ≡ q) ⊎ (x ≡ complement q))
    → IsOnce P (q ∷ complement q ∷ [])
both_once P q own other alone = record {
  distinct =
      distinct_cons q (complement q ∷ []) (λ m. not_own q.positive (ap (λ (x : Literal). x.positive) (only (complement q) q m)))
      (distinct_cons (complement q) [] (λ m. omega (arith, m.1)) distinct_nil);
  sound = All-cons P q (complement q ∷ []) own (All-cons P (complement q) [] other (All-nil P));
  complete = λ x h. elim (alone x h) [
    | inl e ↦ (0, omega arith, sym e)
    | inr e ↦ (1, omega arith, sym e)
  ];
}

none_once : (P : Literal → Type 0) → ((x : Literal) → ¬ P x) → IsOnce P []
none_once P none = record { distinct = distinct_nil; sound = All-nil P; complete = λ x h. absurd (none x h) }

-- what is a literal or attacks it, is it or its complement
near_both : (T : TheoryLists) (q x : Literal) → IsOrAttacks T q x → (x ≡ q) ⊎ (x ≡ complement q)
near_both T q x (inl e) = inl e
near_both T q x (inr m) = inr (only (complement q) x m)

near_one : (q x : Literal) → IsNear (q ∷ []) x → (x ≡ q) ⊎ (x ≡ complement q)
near_one q x (inl m) = inl (only q x m)
near_one q x (inr m) = inr (sym (complement_twice x) ∙ ap complement (only q (complement x) m))

module _ (names : List Literal) (complements : (q : Literal) → Contains names q → Contains names (complement q)) where
  none_new : (q : Literal) → Contains names q → IsOnce (IsNew names (q ∷ [])) []
  none_new q there =
      none_once (IsNew names (q ∷ []))
      (λ x h. elim (near_one q x h.0) [
        | inl e ↦ h.1 (subst (Contains names) (sym e) there)
        | inr e ↦ h.1 (subst (Contains names) (sym e) (complements q there))
      ])

  both_new : (q : Literal) → (¬ Contains names q) → IsOnce (IsNew names (q ∷ [])) (q ∷ complement q ∷ [])
  both_new q absent =
      both_once (IsNew names (q ∷ [])) q (inl (0, omega arith, refl), absent)
      (inr (0, omega arith, sym (complement_twice q)), λ there. absent (subst (Contains names) (complement_twice q) (complements (complement q) there)))
      (λ x h. near_one q x h.0)

bare_before : IsBare two_rules
bare_before = All-cons (λ r. r.body ≡ []) (rule 49 a) (rule 50 b ∷ []) refl (All-cons (λ r. r.body ≡ []) (rule 50 b) [] refl (All-nil (λ r. r.body ≡ [])))

mentions_a : Mentions two_rules a
mentions_a = inl (inr (0, rule 49 a, omega arith, refl, inl refl))

pub few_for_fact : (names : List Literal) (before after : ℕ) → ((q : Literal) → Mentions two_rules q → Contains names q)
    → ((q : Literal) → Contains names q → Contains names (complement q)) → IsWithinCone two_rules names fact_a before after → after ≤ before + 32
few_for_fact names before after mentioned complements few =
    let accepted : IsAccepted two_rules fact_a = (λ m. omega (arith, m.1), omega arith) in
    let cone = both_once (Cone two_rules fact_a) a (accepted, Reaches.start a (inl refl)) (accepted, Reaches.start (complement a) (inr (0, omega arith, refl)))
    (λ x h. near_both two_rules a x (seeds_alone two_rules fact_a bare_before bare_before x h)) in
    omega (arith, few (a ∷ complement a ∷ []) [] cone (none_new names complements a (mentioned a mentions_a)))

bare_after : IsBare (after_edit two_rules rule_c)
bare_after =
    All-cons (λ r. r.body ≡ []) (rule 49 a) (rule 50 b ∷ rule 51 c ∷ []) refl
    (All-cons (λ r. r.body ≡ []) (rule 50 b) (rule 51 c ∷ []) refl (All-cons (λ r. r.body ≡ []) (rule 51 c) [] refl (All-nil (λ r. r.body ≡ []))))

-- the labels are r1 and r2
not_labelled : (digit : ℕ) → ¬ (digit ≡ 49) → ¬ (digit ≡ 50) → ¬ Contains (label 49 ∷ label 50 ∷ []) (label digit)
not_labelled digit first second m = elim (Contains-append_cases (label 49 ∷ []) (label 50 ∷ []) (label digit) m) [
  | inl k ↦ let e = only (label 49) (label digit) k in first cc
  | inr k ↦ let e = only (label 50) (label digit) k in second cc
]

pub few_for_rule : (names : List Literal) (before after : ℕ) → ((q : Literal) → Contains names q → Contains names (complement q))
    → IsWithinCone two_rules names rule_c before after → after ≤ before + 48
few_for_rule names before after complements few =
    let accepted : IsAccepted two_rules rule_c = (not_labelled 51 (λ e. omega (arith, e)) (λ e. omega (arith, e)), omega arith) in
    let cone = both_once (Cone two_rules rule_c) c (accepted, Reaches.start c (inl refl)) (accepted, Reaches.start (complement c) (inr (0, omega arith, refl)))
    (λ x h. near_both two_rules c x (seeds_alone two_rules rule_c bare_before bare_after x h)) in
    elim (literal_in names c) [
      | inl there ↦ omega (arith, few (c ∷ complement c ∷ []) [] cone (none_new names complements c there))
      | inr absent ↦ omega (arith, few (c ∷ complement c ∷ []) (c ∷ complement c ∷ []) cone (both_new names complements c absent))
    ]

-- no head of the two rules attacks one
heads_positive : All (λ r. r.head.positive ≡ true) two_rules.rules
heads_positive =
    All-cons (λ r. r.head.positive ≡ true) (rule 49 a) (rule 50 b ∷ []) refl
    (All-cons (λ r. r.head.positive ≡ true) (rule 50 b) [] refl (All-nil (λ r. r.head.positive ≡ true)))

no_seed : (q : Literal) → ¬ IsSeed two_rules pair_apart q
no_seed q h =
    let u = h.4 in
    let positive = λ (r : Rule) (m : Contains two_rules.rules r). All-contains (λ r. r.head.positive ≡ true) two_rules.rules r heads_positive m in
    let upper = positive h.1 (h.0, h.2, h.3) in
    let lower = positive u.1 (u.0, u.2, u.3) in
    let meets = ap (λ (x : Literal). x.positive) (only (complement h.1.head) u.1.head u.4.2) in
    not_own true (sym lower ∙ meets ∙ ap not upper)

nothing_near : (q : Literal) → ¬ IsNear [] q
nothing_near q (inl m) = omega (arith, m.1)
nothing_near q (inr m) = omega (arith, m.1)

pub none_for_pair : (names : List Literal) (before after : ℕ) → IsWithinCone two_rules names pair_apart before after → after ≤ before
none_for_pair names before after few =
    omega (
      arith,
      few [] [] (none_once (Cone two_rules pair_apart) (λ x h. no_seed x (seeds_alone two_rules pair_apart bare_before bare_before x h)))
          (none_once (IsNew names []) (λ x h. nothing_near x h.0)),
    )

pub none_for_refusal : (names : List Literal) (before after : ℕ) → ((q : Literal) → Mentions two_rules q → Contains names q)
    → ((q : Literal) → Contains names q → Contains names (complement q)) → IsWithinCone two_rules names rule_again before after → after ≤ before
none_for_refusal names before after mentioned complements few =
    omega (
      arith,
      few [] [] (none_once (Cone two_rules rule_again) (λ x h. h.0.0 (0, omega arith, refl)))
          (none_new names complements a (mentioned a mentions_a)),
    )
