-- What is drawn for atoms up to one is a well-formed theory, with the labels of all rules up to one and pairs of these alone.
use Rattle.std.proofs.Common.{◌≡◌, ◌≢◌, ℕ, zero, suc, ◌+◌, ◌*◌, ◌^◌, ◌<◌, ◌≤◌, Bool, true, false, if◌then◌else◌, List, [], ◌∷◌, ◌++◌, length, fold, decimal, inl, inr, refl, sym, ap, subst, ◌∙◌, append_assoc, append-nil, length-append, eq-or-lt_of_le, arith}
use Rattle.std.specs.Prelude.{All, Contains}
use Rattle.std.proofs.lemmas.Fmt.{decimal_injective}
use Rattle.std.proofs.lemmas.List.{map-append}
use Rattle.std.proofs.lemmas.List.Sums.{fold_push}
use Rattle.std.proofs.lemmas.List.Elements.{All-nil, All-push, All-weaker, All-contains, Contains-push, Contains-append_left}
use Rattle.dl_base.proofs.Distinct.{distinct_nil}
use Rattle.dl_base.proofs.PathLemmas.{path_climbs}
use Rattle.dl_lit.specs.declared.literal.Literal.{Literal}
use Rattle.dl_theory.specs.declared.rule.Rule.{Rule}
use Rattle.dl_theory.specs.declared.rule.Pair.{Pair}
use Rattle.dl_theory.specs.declared.edit.Edit.TheVariants.{AddRule, AddFact, AddPair}
use Rattle.dl_theory.specs.Lists.{TheoryLists, no_lists, labels, IsAbove, IsWellFormed}
use Rattle.dl_theory.specs.Pairs.{Closes}
use Rattle.dl_theory.specs.Edits.{HasLabel, after_edit}
use Rattle.dl_theory.proofs.WellFormed.{add_rule_keeps, add_fact_keeps, add_pair_keeps}
use Rattle.dl_draw.specs.Generator.{draw_each, rule_label, literal_at, above, draw_rule, draw_rules, draw_facts, draw_pairs, draw_part, beside, draw_lists, generated_theory}

-- names of numbers

same_label : (m n : ℕ) → m < 2 ^ 64 → n < 2 ^ 64 → rule_label m ≡ rule_label n → m ≡ n
same_label m n hm hn e = let digits : decimal m ≡ decimal n = cc in decimal_injective m n hm hn digits

same_fact : (m n : ℕ) → m < 2 ^ 64 → n < 2 ^ 64 → literal_at m true ≡ literal_at n true → m ≡ n
same_fact m n hm hn e =
    let names : 112 ∷ decimal m ≡ 112 ∷ decimal n = ap (λ (q : Literal). q.atom) e in
    let digits : decimal m ≡ decimal n = cc in
    decimal_injective m n hm hn digits

abbrev pub IsRuleBelow : ℕ → List ℕ → Type 0
IsRuleBelow n label = (k : ℕ) × (k < n) × (label ≡ rule_label k)

abbrev pub IsFactBelow : ℕ → Literal → Type 0
IsFactBelow n q = (k : ℕ) × (k < n) × (q ≡ literal_at k true)

abbrev pub IsPairBelow : ℕ → Pair → Type 0
IsPairBelow n p = IsRuleBelow n p.upper × IsRuleBelow n p.lower

not_below : (n k : ℕ) → n ≤ k → k < 1000000 → ¬ IsRuleBelow n (rule_label k)
not_below n k le few b = absurd (omega (arith, b.1, same_label k b.0 (omega arith) (omega (arith, b.1)) b.2))

below_more : (n m : ℕ) → n ≤ m → (label : List ℕ) → IsRuleBelow n label → IsRuleBelow m label
below_more n m le label b = (b.0, omega (arith, b.1), b.2)

pair_below_more : (n m : ℕ) → n ≤ m → (p : Pair) → IsPairBelow n p → IsPairBelow m p
pair_below_more n m le p b = (below_more n m le p.upper b.0, below_more n m le p.lower b.1)

-- the rules, facts and pairs are those of numbers below these, and all such rules are there
pub record IsFront (rules facts pairs : ℕ) (T : TheoryLists) : Type 0 where
  pub well_formed : IsWellFormed T
  pub labels_below : All (IsRuleBelow rules) (labels T)
  pub labels_there : (k : ℕ) → k < rules → HasLabel T (rule_label k)
  pub few_rules : length T.rules ≤ rules
  pub facts_below : All (IsFactBelow facts) T.facts
  pub few_facts : length T.facts ≤ facts
  pub pairs_below : All (IsPairBelow pairs) T.pairs
  pub few_pairs : length T.pairs ≤ pairs

empty_front : IsFront 0 0 0 no_lists
empty_front = record {
  well_formed = record {
    labels_distinct = distinct_nil;
    facts_distinct = distinct_nil;
    pairs_distinct = distinct_nil;
    pairs_label_rules = All-nil (λ p. Contains [] p.upper × Contains [] p.lower);
    acyclic = λ c. absurd (omega (arith, c.closes.1));
    few_facts = omega arith;
    few_rules = omega arith;
    few_pairs = omega arith;
  };
  labels_below = All-nil (IsRuleBelow 0);
  labels_there = λ k lt. absurd (omega arith);
  few_rules = omega arith;
  facts_below = All-nil (IsFactBelow 0);
  few_facts = omega arith;
  pairs_below = All-nil (IsPairBelow 0);
  few_pairs = omega arith;
}

rule_more : (r s f p : ℕ) (T : TheoryLists) (u : Rule) → IsFront r f p T → r < 1000000 → s ≡ r + 1 → u.label ≡ rule_label r
    → IsFront s f p (after_edit T (AddRule u))
rule_more r s f p T u h few next e =
    let new : Contains (labels T) u.label → ⊥ =
    λ m. not_below r r (omega arith) few
    (subst (IsRuleBelow r) e (All-contains (IsRuleBelow r) (labels T) u.label h.labels_below m)) in
    let spread : labels (after_edit T (AddRule u)) ≡ labels T ++ u.label ∷ [] = map-append (λ v. v.label) T.rules (u ∷ []) in
    let there : (label : List ℕ) → Contains (labels T ++ u.label ∷ []) label → HasLabel (after_edit T (AddRule u)) label =
    λ label m. subst (λ (ls : List (List ℕ)). Contains ls label) (sym spread) m in
    record {
      well_formed = add_rule_keeps T u h.well_formed new (omega (arith, h.few_rules));
      labels_below = subst (λ (ls : List (List ℕ)). All (IsRuleBelow s) ls) (sym spread)
          (All-push (IsRuleBelow s) (labels T) u.label
          (All-weaker (IsRuleBelow r) (IsRuleBelow s) (below_more r s (omega arith)) (labels T) h.labels_below) (r, omega arith, e));
      labels_there = λ k lt.
          let le : k ≤ r = omega arith in
          elim (eq-or-lt_of_le le) as (λ _. HasLabel (after_edit T (AddRule u)) (rule_label k)) [
            | inl same ↦
                there (rule_label k)
                (subst (λ (label : List ℕ). Contains (labels T ++ u.label ∷ []) label) (e ∙ ap rule_label (sym same)) (Contains-push (labels T) u.label))
            | inr less ↦ there (rule_label k) (Contains-append_left (labels T) (u.label ∷ []) (rule_label k) (h.labels_there k less))
          ];
      few_rules = omega (arith, h.few_rules, length-append T.rules (u ∷ []));
      facts_below = h.facts_below;
      few_facts = h.few_facts;
      pairs_below = h.pairs_below;
      few_pairs = h.few_pairs;
    }

facts_weaker : (i : ℕ) (facts : List Literal) → All (IsFactBelow i) facts → All (IsFactBelow (suc i)) facts
facts_weaker i facts h = All-weaker (IsFactBelow i) (IsFactBelow (suc i)) (λ q b. (b.0, omega (arith, b.1), b.2)) facts h

no_fact_more : (r i p : ℕ) (T : TheoryLists) → IsFront r i p T → IsFront r (suc i) p T
no_fact_more r i p T h = record {
  well_formed = h.well_formed;
  labels_below = h.labels_below;
  labels_there = h.labels_there;
  few_rules = h.few_rules;
  facts_below = facts_weaker i T.facts h.facts_below;
  few_facts = omega (arith, h.few_facts);
  pairs_below = h.pairs_below;
  few_pairs = h.few_pairs;
}

fact_more : (r i p : ℕ) (T : TheoryLists) → IsFront r i p T → i < 1000000 → IsFront r (suc i) p (after_edit T (AddFact (literal_at i true)))
fact_more r i p T h few =
    let new : Contains T.facts (literal_at i true) → ⊥ =
    λ m. let b = All-contains (IsFactBelow i) T.facts (literal_at i true) h.facts_below m in
    absurd (omega (arith, b.1, same_fact i b.0 (omega arith) (omega (arith, b.1)) b.2)) in
    record {
      well_formed = add_fact_keeps T (literal_at i true) h.well_formed new (omega (arith, h.few_facts));
      labels_below = h.labels_below;
      labels_there = h.labels_there;
      few_rules = h.few_rules;
      facts_below = All-push (IsFactBelow (suc i)) T.facts (literal_at i true) (facts_weaker i T.facts h.facts_below) (i, omega arith, refl);
      few_facts = omega (arith, h.few_facts, length-append T.facts (literal_at i true ∷ []));
      pairs_below = h.pairs_below;
      few_pairs = h.few_pairs;
    }

no_pair_more : (r f p q : ℕ) (T : TheoryLists) → IsFront r f p T → p ≤ q → IsFront r f q T
no_pair_more r f p q T h le = record {
  well_formed = h.well_formed;
  labels_below = h.labels_below;
  labels_there = h.labels_there;
  few_rules = h.few_rules;
  facts_below = h.facts_below;
  few_facts = h.few_facts;
  pairs_below = All-weaker (IsPairBelow p) (IsPairBelow q) (pair_below_more p q le) T.pairs h.pairs_below;
  few_pairs = omega (arith, h.few_pairs);
}

-- no path leads to a rule that is not yet below another
not_closing : (p u l : ℕ) (pairs : List Pair) → All (IsPairBelow p) pairs → p ≤ u → u < 1000000 → l < 1000000 → u ≢ l → ¬ Closes pairs (above u l)
not_closing p u l pairs below le few low apart c =
    let same : rule_label l ≡ rule_label u =
    path_climbs (IsAbove pairs) (λ label. label ≡ rule_label u)
    (λ x y seen over. absurd (not_below p u le few
    (subst (IsRuleBelow p) seen (All-contains (IsPairBelow p) pairs (record { upper = x; lower = y }) below over).1)))
    (rule_label l) (rule_label u) c.0 c.1 refl in
    apart (sym (same_label l u (omega arith) (omega arith) same))

pair_more : (r f p q u l : ℕ) (T : TheoryLists) → IsFront r f p T → r < 1000000 → q ≤ r → p ≤ u → u < q → l < q → u ≢ l
    → IsFront r f q (after_edit T (AddPair (above u l)))
pair_more r f p q u l T h few within le upper lower apart =
    let new : Contains T.pairs (above u l) → ⊥ =
    λ m. not_below p u le (omega arith) (All-contains (IsPairBelow p) T.pairs (above u l) h.pairs_below m).0 in
    record {
      well_formed = add_pair_keeps T (above u l) h.well_formed (h.labels_there u (omega arith)) (h.labels_there l (omega arith)) new
          (not_closing p u l T.pairs h.pairs_below le (omega arith) (omega arith) apart) (omega (arith, h.few_pairs));
      labels_below = h.labels_below;
      labels_there = h.labels_there;
      few_rules = h.few_rules;
      facts_below = h.facts_below;
      few_facts = h.few_facts;
      pairs_below = All-push (IsPairBelow q) T.pairs (above u l)
          (All-weaker (IsPairBelow p) (IsPairBelow q) (pair_below_more p q (omega arith)) T.pairs h.pairs_below)
          ((u, upper, refl), (l, lower, refl));
      few_pairs = omega (arith, h.few_pairs, length-append T.pairs (above u l ∷ []));
    }

-- what there is for one atom more

three_rules : (i f p : ℕ) (T : TheoryLists) (a b c : Rule) → IsFront (3 * i) f p T → i < 4096 → a.label ≡ rule_label (3 * i)
    → b.label ≡ rule_label (3 * i + 1) → c.label ≡ rule_label (3 * i + 2)
    → IsFront (3 * suc i) f p (record T { rules = T.rules ++ a ∷ b ∷ c ∷ [] })
three_rules i f p T a b c h few first second third =
    let one = rule_more (3 * i) (3 * i + 1) f p T a h (omega arith) refl first in
    let two = rule_more (3 * i + 1) (3 * i + 2) f p (after_edit T (AddRule a)) b one (omega arith) (omega arith) second in
    let three = rule_more (3 * i + 2) (3 * suc i) f p (after_edit (after_edit T (AddRule a)) (AddRule b)) c two (omega arith) (omega arith) third in
    let joined : ((T.rules ++ a ∷ []) ++ b ∷ []) ++ c ∷ [] ≡ T.rules ++ a ∷ b ∷ c ∷ [] = simp append_assoc in
    subst (λ (rules : List Rule). IsFront (3 * suc i) f p (record T { rules = rules })) joined three

rules_more : (size i x f p : ℕ) (T : TheoryLists) → IsFront (3 * i) f p T → i < 4096
    → IsFront (3 * suc i) f p (record T { rules = T.rules ++ (draw_rules size i x).value })
unfolding draw_rules draw_rule
rules_more size i x f p T h few = three_rules i f p T _ _ _ h few refl refl refl

maybe_fact : (r i p : ℕ) (T : TheoryLists) (b : Bool) → IsFront r i p T → i < 4096
    → IsFront r (suc i) p (record T { facts = T.facts ++ (if b then literal_at i true ∷ [] else []) })
maybe_fact r i p T true h few = fact_more r i p T h (omega arith)
maybe_fact r i p T false h few =
    subst (λ (facts : List Literal). IsFront r (suc i) p (record T { facts = facts })) (sym (append-nil T.facts)) (no_fact_more r i p T h)

facts_more : (r i p x : ℕ) (T : TheoryLists) → IsFront r i p T → i < 4096
    → IsFront r (suc i) p (record T { facts = T.facts ++ (draw_facts i x).value })
unfolding draw_facts
facts_more r i p x T h few = maybe_fact r i p T _ h few

either_way : (i f : ℕ) (T : TheoryLists) (b : Bool) → IsFront (3 * suc i) f (3 * i) T → i < 4096
    → IsFront (3 * suc i) f (3 * i + 2) (after_edit T (AddPair (if b then above (3 * i) (3 * i + 1) else above (3 * i + 1) (3 * i))))
either_way i f T true h few =
    pair_more (3 * suc i) f (3 * i) (3 * i + 2) (3 * i) (3 * i + 1) T h (omega arith) (omega arith) (omega arith) (omega arith) (omega arith) (λ e. absurd (omega arith))
either_way i f T false h few =
    pair_more (3 * suc i) f (3 * i) (3 * i + 2) (3 * i + 1) (3 * i) T h (omega arith) (omega arith) (omega arith) (omega arith) (omega arith) (λ e. absurd (omega arith))

maybe_pair : (i f : ℕ) (T : TheoryLists) (p : Pair) (b : Bool) → IsFront (3 * suc i) f (3 * i + 2) (after_edit T (AddPair p)) → i < 4096
    → IsFront (3 * suc i) f (3 * suc i) (record T { pairs = T.pairs ++ p ∷ (if b then above (3 * i + 2) (3 * i) ∷ [] else []) })
maybe_pair i f T p true h few =
    let more = pair_more (3 * suc i) f (3 * i + 2) (3 * suc i) (3 * i + 2) (3 * i) (after_edit T (AddPair p)) h (omega arith) (omega arith) (omega arith) (omega arith) (omega arith) (λ e. absurd (omega arith)) in
    subst (λ (pairs : List Pair). IsFront (3 * suc i) f (3 * suc i) (record T { pairs = pairs }))
    (append_assoc T.pairs (p ∷ []) (above (3 * i + 2) (3 * i) ∷ [])) more
maybe_pair i f T p false h few = no_pair_more (3 * suc i) f (3 * i + 2) (3 * suc i) (after_edit T (AddPair p)) h (omega arith)

pairs_more : (i f x : ℕ) (T : TheoryLists) → IsFront (3 * suc i) f (3 * i) T → i < 4096
    → IsFront (3 * suc i) f (3 * suc i) (record T { pairs = T.pairs ++ (draw_pairs i x).value })
unfolding draw_pairs
pairs_more i f x T h few = maybe_pair i f T _ _ (either_way i f T _ h few) few

part_more : (size i x : ℕ) (T : TheoryLists) → IsFront (3 * i) i (3 * i) T → i < 4096
    → IsFront (3 * suc i) (suc i) (3 * suc i) (beside T (draw_part size i x).value)
unfolding draw_part
part_more size i x T h few =
    let rules = draw_rules size i x in
    let facts = draw_facts i rules.state in
    let with_rules : TheoryLists = record T { rules = T.rules ++ rules.value } in
    let with_facts : TheoryLists = record with_rules { facts = T.facts ++ facts.value } in
    pairs_more i (suc i) facts.state with_facts
    (facts_more (3 * suc i) i (3 * i) rules.state with_rules (rules_more size i x i (3 * i) T h few) few) few

fronts : (size n x : ℕ) → n ≤ 4096 → IsFront (3 * n) n (3 * n) (fold beside no_lists (draw_each (draw_part size) n x).value)
fronts size zero x h = empty_front
fronts size (suc n) x h =
    let before = draw_each (draw_part size) n x in
    let last = draw_part size n before.state in
    subst (λ (T : TheoryLists). IsFront (3 * suc n) (suc n) (3 * suc n) T) (sym (fold_push beside no_lists before.value last.value))
    (part_more size n before.state (fold beside no_lists before.value) (fronts size n x (omega arith)) (omega arith))

pub generated_well_formed : (seed size : ℕ) → size ≤ 4096 → IsWellFormed (generated_theory seed size)
unfolding draw_lists
generated_well_formed seed size h = (fronts size size seed h).well_formed
