-- Rules above a rule: how many, and those that can support their heads.
use Rattle.std.proofs.Common.{◌≡◌, ℕ, ◌<◌, ◌≤◌, ◌^◌, ◌&&◌, Bool, true, false, List, [], ◌∷◌, ◌++◌, length, get_or, refl, sym, ap, ◌∙◌, arith, cond, inl, inr, length-append}
use Rattle.std.specs.Prelude.{All, Contains, filter}
use Rattle.std.specs.List.{flat_map}
use Rattle.std.specs.Str.{bytes_eq}
use Rattle.std.proofs.lemmas.List.Elements.{All-head, All-tail, filter-append}
use Rattle.dl_theory.specs.declared.rule.Rule.{Rule}
use Rattle.dl_theory.specs.declared.rule.Pair.{Pair}
use Rattle.dl_theory.specs.Lists.{IsWellFormed, labels, can_support}
use Rattle.dl_theory.specs.Tests as test
use Rattle.dl_graph.specs.Numbers.{NetLists, IsNumbered, HasRule, rule_at, of_rule, labelled, uppers_row}
use Rattle.dl_rows.specs.Rows.{row}
use Rattle.dl_graph.proofs.Slots.{has_rule, row_of, row_none}
use Rattle.dl_graph.proofs.LabelLemmas.{labelled_is, place_of_label}

one_at_most : (b : Bool) (u : ℕ) → length (cond b (u ∷ []) []) ≤ 1
one_at_most true u = omega arith
one_at_most false u = omega arith

step_short : (b : Bool) (xs : List ℕ) → length xs ≤ 1 → length (cond b xs []) ≤ 1
step_short true xs h = h
step_short false xs h = omega arith

flat_short : (f : Pair → List ℕ) (ps : List Pair) → All (λ p. length (f p) ≤ 1) ps → length (flat_map f ps) ≤ length ps
flat_short f [] h = omega arith
flat_short f (p ∷ ps) h =
    omega (arith, length-append (f p) (flat_map f ps), All-head (λ q. length (f q) ≤ 1) p ps h, flat_short f ps (All-tail (λ q. length (f q) ≤ 1) p ps h))

filter_one : (P : ℕ → Bool) (b v : Bool) (u : ℕ) → P u ≡ v → filter P (cond (b && true) (u ∷ []) []) ≡ cond (b && v) (u ∷ []) []
filter_one P true v u e = ap (λ w. cond w (u ∷ []) []) e
filter_one P false v u e = refl

filter_step : (P : ℕ → Bool) (b : Bool) (xs ys : List ℕ) → filter P xs ≡ ys → filter P (cond b xs []) ≡ cond b ys []
filter_step P true xs ys e = e
filter_step P false xs ys e = refl

filter_flat : (P : ℕ → Bool) (f g : Pair → List ℕ) (ps : List Pair) → All (λ p. filter P (f p) ≡ g p) ps → filter P (flat_map f ps) ≡ flat_map g ps
filter_flat P f g [] h = refl
filter_flat P f g (p ∷ ps) h =
    filter-append P (f p) (flat_map f ps)
    ∙ (λ i. All-head (λ q. filter P (f q) ≡ g q) p ps h i ++ filter_flat P f g ps (All-tail (λ q. filter P (f q) ≡ g q) p ps h) i)

module _ (N : NetLists) (formed : IsWellFormed N.theory) (numbered : IsNumbered N) where
  labelled_short : (l : List ℕ) (p : Rule → Bool) → Contains (labels N.theory) l → length (labelled N l p) ≤ 1
  labelled_short l p m =
      let at = place_of_label N numbered formed.labels_distinct l m in
      omega (arith, ap length (labelled_is N numbered formed.labels_distinct l p at.0 at.1 at.2), one_at_most (p (rule_at N at.0)) at.0)

  -- the rules that one pair puts above a rule, where these pass a test
  abbrev above : (Rule → Bool) → Rule → Pair → List ℕ
  above p u pair = cond (bytes_eq pair.lower u.label) (labelled N pair.upper (λ t. test.is_opposing N.theory t.head u && p t)) []

  uppers_few : (p : Rule → Bool) (u : Rule) → length (uppers_row N p u) ≤ length N.theory.pairs
  uppers_few p u =
      flat_short (above p u) N.theory.pairs
      (λ k d lt. step_short (bytes_eq (get_or N.theory.pairs k d).lower u.label)
      (labelled N (get_or N.theory.pairs k d).upper (λ t. test.is_opposing N.theory t.head u && p t))
      (labelled_short (get_or N.theory.pairs k d).upper (λ t. test.is_opposing N.theory t.head u && p t) (formed.pairs_label_rules k d lt).0))

  -- no rule has more above it than there are pairs
  pub uppers_short : (p : Rule → Bool) (k : ℕ) → length (row (of_rule (uppers_row N p)) N.rules k) < 2 ^ 26
  uppers_short p k =
      elim (has_rule N k) [
        | inl h ↦ omega (arith, ap length (row_of N (uppers_row N p) k h), uppers_few p (rule_at N k), formed.few_pairs)
        | inr none ↦ omega (arith, ap length (row_none N (uppers_row N p) k none))
      ]

  module _ (P : ℕ → Bool) (tells : (t : ℕ) → HasRule N t → P t ≡ can_support (rule_at N t).kind) where
    one_pair : (u : Rule) (pair : Pair) → Contains (labels N.theory) pair.upper
        → filter P (above (λ _. true) u pair) ≡ above (λ t. can_support t.kind) u pair
    one_pair u pair m =
        let at = place_of_label N numbered formed.labels_distinct pair.upper m in
        filter_step P (bytes_eq pair.lower u.label) (labelled N pair.upper (λ t. test.is_opposing N.theory t.head u && true))
        (labelled N pair.upper (λ t. test.is_opposing N.theory t.head u && can_support t.kind))
        (ap (filter P) (labelled_is N numbered formed.labels_distinct pair.upper (λ t. test.is_opposing N.theory t.head u && true) at.0 at.1 at.2)
        ∙ filter_one P (test.is_opposing N.theory (rule_at N at.0).head u) (can_support (rule_at N at.0).kind) at.0 (tells at.0 at.1)
        ∙ sym (labelled_is N numbered formed.labels_distinct pair.upper (λ t. test.is_opposing N.theory t.head u && can_support t.kind) at.0 at.1 at.2))

    row_filtered : (u : Rule) → filter P (uppers_row N (λ _. true) u) ≡ uppers_row N (λ t. can_support t.kind) u
    row_filtered u =
        filter_flat P (above (λ _. true) u) (above (λ t. can_support t.kind) u) N.theory.pairs
        (λ k d lt. one_pair u (get_or N.theory.pairs k d) (formed.pairs_label_rules k d lt).0)

    -- those above that can support their heads
    pub uppers_filtered : (k : ℕ)
        → filter P (row (of_rule (uppers_row N (λ _. true))) N.rules k) ≡ row (of_rule (uppers_row N (λ t. can_support t.kind))) N.rules k
    uppers_filtered k =
        elim (has_rule N k) [
          | inl h ↦
              ap (filter P) (row_of N (uppers_row N (λ _. true)) k h)
              ∙ row_filtered (rule_at N k)
              ∙ sym (row_of N (uppers_row N (λ t. can_support t.kind)) k h)
          | inr none ↦
              ap (filter P) (row_none N (uppers_row N (λ _. true)) k none) ∙ sym (row_none N (uppers_row N (λ t. can_support t.kind)) k none)
        ]
