-- Rules by label: labels are distinct, so one number at most has a rule with a label.
use Rattle.std.proofs.Common.{◌≡◌, ◌≢◌, ℕ, zero, suc, ◌+◌, ◌<◌, ◌&&◌, Bool, true, false, Option, None, Some, List, [], ◌∷◌, ◌++◌, length, get_or, map, replicate, refl, sym, ap, subst, ◌∙◌, arith, cond, append-nil}
use Rattle.std.specs.Prelude.{Contains, option_map}
use Rattle.std.specs.Str.{bytes_eq}
use Rattle.std.proofs.lemmas.Slice.Eq.{bytes_eq-Decides}
use Rattle.dl_base.specs.Paths.{IsDistinct}
use Rattle.dl_base.proofs.Filters.{false_unless}
use Rattle.dl_base.proofs.Members.{mapped_from}
use Rattle.dl_theory.specs.declared.rule.Rule.{Rule}
use Rattle.dl_theory.specs.Lists.{labels}
use Rattle.dl_rows.specs.Counting.{times}
use Rattle.dl_rows.specs.Rows.{places_from}
use Rattle.dl_rows.specs.There.{IsOnce}
use Rattle.dl_rows.proofs.There.{there_map, distinct_once, has_within}
use Rattle.dl_graph.specs.Numbers.{NetLists, IsNumbered, HasRule, rule_at, of_rule, mark_row, labelled}
use Rattle.dl_graph.proofs.Slots.{rule_there, number_of_rule}

-- ---- one place at most

module _ {X : Type 0} (f : X → List ℕ) (q : ℕ) where
  no_place : (xs : List X) (k : ℕ) (d : X) → ((i : ℕ) → i < length xs → times q (f (get_or xs i d)) ≡ 0) → places_from f k xs q ≡ []
  no_place [] k d none = refl
  no_place (x ∷ xs) k d none =
      ap (λ n. replicate n k ++ places_from f (suc k) xs q) (none 0 (omega arith))
      ∙ no_place xs (suc k) d (λ i lt. none (suc i) (omega (arith, lt)))

  -- where no other row has the number
  one_place : (xs : List X) (k u : ℕ) (d : X) → u < length xs → ((i : ℕ) → i < length xs → i ≢ u → times q (f (get_or xs i d)) ≡ 0)
      → places_from f k xs q ≡ replicate (times q (f (get_or xs u d))) (u + k)
  one_place [] k u d lt none = absurd (omega (arith, lt))
  one_place (x ∷ xs) k zero d lt none =
      let at : k ≡ 0 + k = omega arith in
      ap (λ (ys : List ℕ). replicate (times q (f x)) k ++ ys)
      (no_place xs (suc k) d (λ i within. none (suc i) (omega (arith, within)) (λ e. absurd (omega (arith, e)))))
      ∙ append-nil (replicate (times q (f x)) k)
      ∙ ap (replicate (times q (f x))) at
  one_place (x ∷ xs) k (suc u) d lt none =
      let at : u + suc k ≡ suc u + k = omega arith in
      ap (λ n. replicate n k ++ places_from f (suc k) xs q) (none 0 (omega arith) (λ e. absurd (omega (arith, e))))
      ∙ one_place xs (suc k) u d (omega (arith, lt)) (λ i within other. none (suc i) (omega (arith, within)) (λ e. other (omega (arith, e))))
      ∙ ap (replicate (times q (f (get_or xs u d)))) at

-- ---- labels by number

abbrev label_of : Rule → List ℕ
label_of r = r.label

slot_label : (xs : List (Option Rule)) (i : ℕ) (r : Rule) → get_or xs i None ≡ Some r → get_or (map (option_map label_of) xs) i None ≡ Some r.label
slot_label [] i r e = cc
slot_label (x ∷ xs) zero r e = ap (option_map label_of) e
slot_label (x ∷ xs) (suc i) r e = slot_label xs i r e

module _ (N : NetLists) (numbered : IsNumbered N) (distinct : IsDistinct (labels N.theory)) where
  labels_once : IsOnce (map (option_map label_of) N.rules)
  labels_once =
      distinct_once (map (option_map label_of) N.rules)
      (subst (λ (xs : List (List ℕ)). IsDistinct xs) (ap (map label_of) numbered.rules ∙ sym (there_map label_of N.rules)) distinct)

  -- rules with one label have one number
  pub label_once : (i j : ℕ) → HasRule N i → HasRule N j → (rule_at N i).label ≡ (rule_at N j).label → i ≡ j
  label_once i j hi hj e =
      labels_once (rule_at N j).label i j (slot_label N.rules i (rule_at N i) (rule_there N i hi) ∙ ap Some e)
      (slot_label N.rules j (rule_at N j) (rule_there N j hj))

  -- the number of the rule with a label
  pub place_of_label : (l : List ℕ) → Contains (labels N.theory) l → (u : ℕ) × HasRule N u × ((rule_at N u).label ≡ l)
  place_of_label l m =
      let from = mapped_from label_of N.theory.rules l m in
      let at = number_of_rule N numbered from.0 from.1 in
      (at.0, at.1, ap label_of at.2 ∙ from.2)

  module _ (l : List ℕ) (p : Rule → Bool) where
    abbrev marks : Rule → List ℕ
    marks r = mark_row (bytes_eq r.label l && p r)

    other_mark : (u i : ℕ) → HasRule N u → (rule_at N u).label ≡ l → i ≢ u → times 0 (of_rule marks (get_or N.rules i None)) ≡ 0
    other_mark u i hu e other = by (get_or N.rules i None) refl
      where
        unmarked : (b v : Bool) → b ≡ false → times 0 (mark_row (b && v)) ≡ 0
        unmarked true v f = cc
        unmarked false v f = refl

        by : (o : Option Rule) → get_or N.rules i None ≡ o → times 0 (of_rule marks o) ≡ 0
        by None at = refl
        by (Some r) at =
            unmarked (bytes_eq r.label l) (p r)
            (false_unless (bytes_eq r.label l) (bytes_eq-Decides r.label l)
            (λ same. other (labels_once l i u (slot_label N.rules i r at ∙ ap Some same) (slot_label N.rules u (rule_at N u) (rule_there N u hu) ∙ ap Some e))))

    -- the rule at a number is the only one with its label
    pub labelled_is : (u : ℕ) → HasRule N u → (rule_at N u).label ≡ l → labelled N l p ≡ cond (p (rule_at N u)) (u ∷ []) []
    labelled_is u hu e =
        let there : get_or N.rules u None ≡ Some (rule_at N u) = rule_there N u hu in
        one_place (of_rule marks) 0 N.rules 0 u None (has_within N.rules (rule_at N u) u there) (λ i lt other. other_mark u i hu e other)
        ∙ ap (λ (o : Option Rule). replicate (times 0 (of_rule marks o)) (u + 0)) there
        ∙ marked (bytes_eq (rule_at N u).label l) (p (rule_at N u)) ((bytes_eq-Decides (rule_at N u).label l).1 e)
        ∙ ap (λ n. cond (p (rule_at N u)) (n ∷ []) []) at
      where
        at : u + 0 ≡ u
        at = omega arith

        marked : (b v : Bool) → b ≡ true → replicate (times 0 (mark_row (b && v))) (u + 0) ≡ cond v ((u + 0) ∷ []) []
        marked true true f = refl
        marked true false f = refl
        marked false v f = cc
