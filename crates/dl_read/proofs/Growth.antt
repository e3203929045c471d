-- A well-formed theory is made by adding its facts, then its rules, then its pairs.
use Rattle.std.proofs.Common.{◌≡◌, ℕ, ◌+◌, ◌≤◌, ◌<◌, List, [], ◌∷◌, ◌++◌, length, map, get_or, refl, sym, ap, subst, ◌∙◌, arith, append_assoc, append-nil, length-append}
use Rattle.std.specs.Prelude.{Contains}
use Rattle.std.proofs.lemmas.List.{map-append, get_or_append_left, get_or-append-add}
use Rattle.std.proofs.lemmas.List.Elements.{All-contains, Contains-append_left, Contains-append_right}
use Rattle.dl_base.specs.Paths.{IsDistinct}
use Rattle.dl_base.proofs.PathLemmas.{path_more}
use Rattle.dl_lit.specs.declared.literal.Literal.{Literal}
use Rattle.dl_theory.specs.declared.rule.Rule.{Rule}
use Rattle.dl_theory.specs.declared.rule.Pair.{Pair}
use Rattle.dl_theory.specs.declared.edit.Edit.{Edit}
use Rattle.dl_theory.specs.declared.edit.Edit.TheVariants.{AddRule, AddFact, AddPair}
use Rattle.dl_theory.specs.Lists.{TheoryLists, no_lists, labels, IsAbove, IsWellFormed}
use Rattle.dl_theory.specs.Edits.{after_edit, after_edits, AreAccepted, IsAccepted, ClosesCycle}

-- One list grows by one edit after another, each accepted where it comes.
module _ {X : Type 0} (made : List X → TheoryLists) (add : X → Edit) (step : (front : List X) (x : X) → after_edit (made front) (add x) ≡ made (front ++ x ∷ []))
    (whole : List X) (accepted : (front : List X) (x : X) (rest : List X) → whole ≡ front ++ x ∷ rest → IsAccepted (made front) (add x)) where
  pub grows : (front rest : List X) → whole ≡ front ++ rest → AreAccepted (made front) (map add rest) × (after_edits (made front) (map add rest) ≡ made whole)
  grows front [] e = (tt, ap made (sym (e ∙ append-nil front)))
  grows front (x ∷ rest) e =
      let more = grows (front ++ x ∷ []) rest (e ∙ sym (append_assoc front (x ∷ []) rest)) in (
        (accepted front x rest e, subst (λ (T : TheoryLists). AreAccepted T (map add rest)) (sym (step front x)) more.0),
        ap (λ (T : TheoryLists). after_edits T (map add rest)) (step front x) ∙ more.1,
      )

-- an element is new to those before it
pub new_to_front : {X : Type 0} (front : List X) (x : X) (rest : List X) → IsDistinct (front ++ x ∷ rest) → ¬ Contains front x
new_to_front {X} front x rest h m =
    let e : length (front ++ x ∷ rest) ≡ length front + length (x ∷ rest) = length-append front (x ∷ rest) in
    let n : length front + 0 ≡ length front = omega arith in
    let here : get_or (front ++ x ∷ rest) (length front) x ≡ x = ap (λ (k : ℕ). get_or (front ++ x ∷ rest) k x) (sym n) ∙ get_or-append-add front (x ∷ rest) 0 x in
    let there : get_or (front ++ x ∷ rest) m.0 x ≡ x = get_or_append_left front (x ∷ rest) x m.0 m.1 ∙ m.2 in
    h m.0 (length front) x m.1 (omega arith) (there ∙ sym here)

few_before : {X : Type 0} (front : List X) (x : X) (rest whole : List X) → whole ≡ front ++ x ∷ rest → length whole ≤ 1000000 → length front < 1000000
few_before front x rest whole e h = omega (arith, ap length e, length-append front (x ∷ rest))

module _ (T : TheoryLists) (h : IsWellFormed T) where
  with_facts : List Literal → TheoryLists
  with_facts facts = record { facts = facts; rules = []; pairs = [] }

  with_rules : List Rule → TheoryLists
  with_rules rules = record { facts = T.facts; rules = rules; pairs = [] }

  with_pairs : List Pair → TheoryLists
  with_pairs pairs = record { facts = T.facts; rules = T.rules; pairs = pairs }

  fact_accepted : (front : List Literal) (q : Literal) (rest : List Literal) → T.facts ≡ front ++ q ∷ rest → IsAccepted (with_facts front) (AddFact q)
  unfolding with_facts
  fact_accepted front q rest e = (
    new_to_front front q rest (subst (λ (l : List Literal). IsDistinct l) e h.facts_distinct),
    few_before front q rest T.facts e h.few_facts,
  )

  rule_accepted : (front : List Rule) (r : Rule) (rest : List Rule) → T.rules ≡ front ++ r ∷ rest → IsAccepted (with_rules front) (AddRule r)
  unfolding with_rules
  rule_accepted front r rest e =
      let parts : labels T ≡ map (λ u. u.label) front ++ r.label ∷ map (λ u. u.label) rest = ap (map (λ u. u.label)) e ∙ map-append (λ u. u.label) front (r ∷ rest) in (
        new_to_front (map (λ u. u.label) front) r.label (map (λ u. u.label) rest) (subst (λ (l : List (List ℕ)). IsDistinct l) parts h.labels_distinct),
        few_before front r rest T.rules e h.few_rules,
      )

  pair_there : (front : List Pair) (p : Pair) (rest : List Pair) → T.pairs ≡ front ++ p ∷ rest → Contains T.pairs p
  pair_there front p rest e =
      subst (λ (l : List Pair). Contains l p) (sym e) (Contains-append_right front (p ∷ rest) p (0, omega arith, refl))

  no_cycle : (front : List Pair) (p : Pair) (rest : List Pair) → T.pairs ≡ front ++ p ∷ rest → ¬ ClosesCycle (with_pairs front) p
  unfolding with_pairs
  no_cycle front p rest e c =
      h.acyclic (record {
        first = p.lower;
        last = p.upper;
        path = c.0;
        is_path = path_more (IsAbove front) (IsAbove T.pairs)
            (λ x y k. subst (λ (l : List Pair). Contains l (record { upper = x; lower = y })) (sym e) (Contains-append_left front (p ∷ rest) (record { upper = x; lower = y }) k))
            p.lower p.upper c.0 c.1;
        closes = pair_there front p rest e;
      })

  pair_accepted : (front : List Pair) (p : Pair) (rest : List Pair) → T.pairs ≡ front ++ p ∷ rest → IsAccepted (with_pairs front) (AddPair p)
  unfolding with_pairs
  pair_accepted front p rest e =
      let both = All-contains (λ x. Contains (labels T) x.upper × Contains (labels T) x.lower) T.pairs p h.pairs_label_rules (pair_there front p rest e) in (
        both.0,
        both.1,
        new_to_front front p rest (subst (λ (l : List Pair). IsDistinct l) e h.pairs_distinct),
        no_cycle front p rest e,
        few_before front p rest T.pairs e h.few_pairs,
      )

  facts_made : AreAccepted no_lists (map AddFact T.facts) × (after_edits no_lists (map AddFact T.facts) ≡ with_rules [])
  unfolding with_facts with_rules
  facts_made = grows with_facts AddFact (λ front x. refl) T.facts fact_accepted [] T.facts refl

  rules_made : AreAccepted (with_rules []) (map AddRule T.rules) × (after_edits (with_rules []) (map AddRule T.rules) ≡ with_pairs [])
  unfolding with_rules with_pairs
  rules_made = grows with_rules AddRule (λ front x. refl) T.rules rule_accepted [] T.rules refl

  pairs_made : AreAccepted (with_pairs []) (map AddPair T.pairs) × (after_edits (with_pairs []) (map AddPair T.pairs) ≡ T)
  unfolding with_pairs
  pairs_made = grows with_pairs AddPair (λ front x. refl) T.pairs pair_accepted [] T.pairs refl

  pub theory_made : (es : List Edit) → es ≡ map AddFact T.facts ++ (map AddRule T.rules ++ map AddPair T.pairs) → AreAccepted no_lists es × (T ≡ after_edits no_lists es)
  theory_made es e =
      let fs = map AddFact T.facts in
      let rs = map AddRule T.rules in
      let ps = map AddPair T.pairs in
      let later = joined (with_rules []) rs ps (with_pairs []) T rules_made pairs_made in
      let all = joined no_lists fs (rs ++ ps) (with_rules []) T facts_made later in
      (subst (λ (l : List Edit). AreAccepted no_lists l) (sym e) all.0, sym (ap (λ (l : List Edit). after_edits no_lists l) e ∙ all.1))
    where
      joined : (T : TheoryLists) (es fs : List Edit) (U V : TheoryLists) → AreAccepted T es × (after_edits T es ≡ U) → AreAccepted U fs × (after_edits U fs ≡ V) → AreAccepted T (es ++ fs) × (after_edits T (es ++ fs) ≡ V)
      joined T [] fs U V a b = (subst (λ (x : TheoryLists). AreAccepted x fs) (sym a.1) b.0, ap (λ (x : TheoryLists). after_edits x fs) a.1 ∙ b.1)
      joined T (e ∷ es) fs U V a b = let more = joined (after_edit T e) es fs U V (a.0.1, a.1) b in ((a.0.0, more.0), more.1)
