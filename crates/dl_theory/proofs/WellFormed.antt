-- Edits keep a theory well formed.
use Rattle.std.proofs.Common.{◌≡◌, ◌≢◌, ℕ, ◌<◌, Bool, true, false, not, ◌||◌, List, [], ◌∷◌, ◌++◌, Result, Ok, Err, length, inl, inr, ◌⊎◌, sym, ap, subst, refl, arith, length-append}
use Rattle.std.specs.Prelude.{Contains, OnOk, OnErr, filter}
use Rattle.std.specs.List.{list_any}
use Rattle.std.specs.Str.{bytes_eq}
use Rattle.std.proofs.lemmas.List.{map-append}
use Rattle.std.proofs.lemmas.List.Elements.{All-weaker, All-push, All-filter, Contains-append_left, Contains-push_cases, filter_passes}
use Rattle.std.proofs.lemmas.List.Kept.{AllPairs-filter}
use Rattle.dl_theory.specs.declared.rule.Rule.{Rule}
use Rattle.std.proofs.lemmas.Map.Made.{is_member-Decides}
use Rattle.dl_base.proofs.Distinct.{distinct_push}
use Rattle.dl_base.proofs.Members.{Contains-filtered}
use Rattle.dl_base.proofs.Filters.{false_unless, length-filter_le, Contains-kept, filter_mapped}
use Rattle.dl_base.proofs.PathLemmas.{acyclic_fewer, acyclic_more}
use Rattle.dl_lit.specs.declared.literal.Literal.{Literal}
use Rattle.dl_lit.specs.Literal.{literal_eq}
use Rattle.dl_lit.specs.Order.{literal_eq-Decides}
use Rattle.dl_base.specs.Paths.{IsDistinct}
use Rattle.dl_theory.specs.declared.rule.Pair.{Pair}
use Rattle.dl_theory.specs.declared.edit.Edit.{Edit}
use Rattle.dl_theory.specs.declared.edit.Edit.TheVariants.{AddRule, DropRule, AddFact, DropFact, AddPair, DropPair}
use Rattle.dl_theory.specs.declared.edit.EditStop.{EditStop}
use Rattle.dl_theory.specs.declared.superiority.PairStop.{PairStop}
use Rattle.dl_theory.specs.Lists.{TheoryLists, IsWellFormed, IsAbove, labels}
use Rattle.dl_theory.specs.Pairs.{pair_eq, Closes}
use Rattle.dl_theory.specs.Edits.{after_edit, after_edits, HasLabel, IsAccepted, IsEdited, AreAccepted}

pub absent_fact : (facts : List Literal) (q : Literal) → (¬ Contains facts q) → list_any (literal_eq q) facts ≡ false
absent_fact facts q new = false_unless (list_any (literal_eq q) facts) (is_member-Decides literal_eq-Decides facts q) new

pub add_fact_keeps : (T : TheoryLists) (q : Literal) → IsWellFormed T → (¬ Contains T.facts q) → length T.facts < 1000000
    → IsWellFormed (after_edit T (AddFact q))
add_fact_keeps T q h new room = record {
  labels_distinct = h.labels_distinct;
  facts_distinct = distinct_push T.facts q h.facts_distinct new;
  pairs_distinct = h.pairs_distinct;
  pairs_label_rules = h.pairs_label_rules;
  acyclic = h.acyclic;
  few_facts = omega (arith, length-append T.facts (q ∷ []));
  few_rules = h.few_rules;
  few_pairs = h.few_pairs;
}

pub add_rule_keeps : (T : TheoryLists) (r : Rule) → IsWellFormed T → (¬ Contains (labels T) r.label) → length T.rules < 1000000
    → IsWellFormed (after_edit T (AddRule r))
add_rule_keeps T r h new room =
    let spread : labels (after_edit T (AddRule r)) ≡ labels T ++ r.label ∷ [] = map-append (λ u. u.label) T.rules (r ∷ []) in
    record {
      labels_distinct = subst (λ (ls : List (List ℕ)). IsDistinct ls) (sym spread) (distinct_push (labels T) r.label h.labels_distinct new);
      facts_distinct = h.facts_distinct;
      pairs_distinct = h.pairs_distinct;
      pairs_label_rules = All-weaker (λ p. Contains (labels T) p.upper × Contains (labels T) p.lower)
          (λ p. Contains (labels (after_edit T (AddRule r))) p.upper × Contains (labels (after_edit T (AddRule r))) p.lower)
          (λ p k. (
            subst (λ (ls : List (List ℕ)). Contains ls p.upper) (sym spread) (Contains-append_left (labels T) (r.label ∷ []) p.upper k.0),
            subst (λ (ls : List (List ℕ)). Contains ls p.lower) (sym spread) (Contains-append_left (labels T) (r.label ∷ []) p.lower k.1),
          ))
          T.pairs h.pairs_label_rules;
      acyclic = h.acyclic;
      few_facts = h.few_facts;
      few_rules = omega (arith, length-append T.rules (r ∷ []));
      few_pairs = h.few_pairs;
    }

pub drop_fact_keeps : (T : TheoryLists) (q : Literal) → IsWellFormed T → IsWellFormed (after_edit T (DropFact q))
drop_fact_keeps T q h = record {
  labels_distinct = h.labels_distinct;
  facts_distinct = AllPairs-filter (λ x y. x ≢ y) (λ x. not (literal_eq x q)) T.facts h.facts_distinct;
  pairs_distinct = h.pairs_distinct;
  pairs_label_rules = h.pairs_label_rules;
  acyclic = h.acyclic;
  few_facts = omega (arith, h.few_facts, length-filter_le (λ x. not (literal_eq x q)) T.facts);
  few_rules = h.few_rules;
  few_pairs = h.few_pairs;
}

neither : (a b : Bool) → not (a || b) ≡ true → (not a ≡ true) × (not b ≡ true)
neither true b h = cc
neither false b h = (refl, h)

pub drop_rule_keeps : (T : TheoryLists) (label : List ℕ) → IsWellFormed T → IsWellFormed (after_edit T (DropRule label))
drop_rule_keeps T label h =
    let left : List (List ℕ) = filter (λ l. not (bytes_eq l label)) (labels T) in
    let spread : labels (after_edit T (DropRule label)) ≡ left =
    sym (filter_mapped (λ (r : Rule). r.label) (λ l. not (bytes_eq l label)) (λ r. not (bytes_eq r.label label)) T.rules (λ k d lt. refl)) in
    let kept : (l : List ℕ) → Contains (labels T) l → not (bytes_eq l label) ≡ true → Contains (labels (after_edit T (DropRule label))) l =
    λ l m passes. subst (λ (ls : List (List ℕ)). Contains ls l) (sym spread) (Contains-kept (λ x. not (bytes_eq x label)) (labels T) l m passes) in
    let stays : Pair → Bool = λ p. not (bytes_eq p.upper label || bytes_eq p.lower label) in
    record {
      labels_distinct =
          subst (λ (ls : List (List ℕ)). IsDistinct ls) (sym spread)
          (AllPairs-filter (λ x y. x ≢ y) (λ l. not (bytes_eq l label)) (labels T) h.labels_distinct);
      facts_distinct = h.facts_distinct;
      pairs_distinct = AllPairs-filter (λ x y. x ≢ y) stays T.pairs h.pairs_distinct;
      pairs_label_rules = λ k d lt.
          let there = All-filter stays (λ p. Contains (labels T) p.upper × Contains (labels T) p.lower) T.pairs h.pairs_label_rules k d lt in
          let apart = neither _ _ (filter_passes stays T.pairs k d lt) in
          (kept _ there.0 apart.0, kept _ there.1 apart.1);
      acyclic =
          acyclic_fewer (IsAbove (filter stays T.pairs)) (IsAbove T.pairs)
          (λ x y m. Contains-filtered stays T.pairs (record { upper = x; lower = y }) m) h.acyclic;
      few_facts = h.few_facts;
      few_rules = omega (arith, h.few_rules, length-filter_le (λ r. not (bytes_eq r.label label)) T.rules);
      few_pairs = omega (arith, h.few_pairs, length-filter_le stays T.pairs);
    }

pub drop_pair_keeps : (T : TheoryLists) (p : Pair) → IsWellFormed T → IsWellFormed (after_edit T (DropPair p))
drop_pair_keeps T p h =
    let stays : Pair → Bool = λ q. not (pair_eq q p) in
    record {
      labels_distinct = h.labels_distinct;
      facts_distinct = h.facts_distinct;
      pairs_distinct = AllPairs-filter (λ x y. x ≢ y) stays T.pairs h.pairs_distinct;
      pairs_label_rules = All-filter stays (λ q. Contains (labels T) q.upper × Contains (labels T) q.lower) T.pairs h.pairs_label_rules;
      acyclic =
          acyclic_fewer (IsAbove (filter stays T.pairs)) (IsAbove T.pairs)
          (λ x y m. Contains-filtered stays T.pairs (record { upper = x; lower = y }) m) h.acyclic;
      few_facts = h.few_facts;
      few_rules = h.few_rules;
      few_pairs = omega (arith, h.few_pairs, length-filter_le stays T.pairs);
    }

pub add_pair_keeps : (T : TheoryLists) (p : Pair) → IsWellFormed T → HasLabel T p.upper → HasLabel T p.lower → (¬ Contains T.pairs p)
    → (¬ Closes T.pairs p) → length T.pairs < 1000000 → IsWellFormed (after_edit T (AddPair p))
add_pair_keeps T p h upper lower new safe room = record {
  labels_distinct = h.labels_distinct;
  facts_distinct = h.facts_distinct;
  pairs_distinct = distinct_push T.pairs p h.pairs_distinct new;
  pairs_label_rules = All-push (λ q. Contains (labels T) q.upper × Contains (labels T) q.lower) T.pairs p h.pairs_label_rules (upper, lower);
  acyclic =
      acyclic_more (IsAbove T.pairs) (IsAbove (T.pairs ++ p ∷ [])) p.upper p.lower
      (λ x y m. elim (Contains-push_cases T.pairs p (record { upper = x; lower = y }) m)
      as (λ _. IsAbove T.pairs x y ⊎ ((x ≡ p.upper) × (y ≡ p.lower))) [
        | inl old ↦ inl old
        | inr same ↦ inr (sym (ap (λ q. q.upper) same), sym (ap (λ q. q.lower) same))
      ])
      h.acyclic (λ path leads. safe (path, leads));
  few_facts = h.few_facts;
  few_rules = h.few_rules;
  few_pairs = omega (arith, length-append T.pairs (p ∷ []));
}

-- an accepted edit keeps a theory well formed
pub edit_keeps : (T : TheoryLists) (e : Edit) → IsWellFormed T → IsAccepted T e → IsWellFormed (after_edit T e)
edit_keeps T (AddRule r) h a = add_rule_keeps T r h a.0 a.1
edit_keeps T (DropRule label) h a = drop_rule_keeps T label h
edit_keeps T (AddFact q) h a = add_fact_keeps T q h a.0 a.1
edit_keeps T (DropFact q) h a = drop_fact_keeps T q h
edit_keeps T (AddPair p) h a = add_pair_keeps T p h a.0 a.1 a.2 a.3 a.4
edit_keeps T (DropPair p) h a = drop_pair_keeps T p h

-- whether an edit was made or not
pub edited_keeps : {A : Type 0} (old new : TheoryLists) (e : Edit) (r : Result A EditStop) → IsWellFormed old → IsEdited old e new r → IsWellFormed new
edited_keeps old new e (Ok x) h i = subst IsWellFormed (sym i.1) (edit_keeps old e h i.0)
edited_keeps old new e (Err stop) h i = subst IsWellFormed (sym i.1) h

-- and so do edits one after another
pub edits_keep : (T : TheoryLists) (es : List Edit) → IsWellFormed T → AreAccepted T es → IsWellFormed (after_edits T es)
edits_keep T [] h a = h
edits_keep T (e ∷ es) h a = edits_keep (after_edit T e) es (edit_keeps T e h a.0) a.1

-- whether a pair was added or not
pub either_keeps : (T : TheoryLists) (p : Pair) (new : List Pair) (r : Result (Unit {0}) PairStop) → IsWellFormed T
    → HasLabel T p.upper → HasLabel T p.lower → (¬ Contains T.pairs p) → OnOk r (¬ Closes T.pairs p) → OnOk r (length T.pairs < 1000000)
    → OnOk r (new ≡ T.pairs ++ p ∷ []) → OnErr r (new ≡ T.pairs) → IsWellFormed (record T { pairs = new })
either_keeps T p new (Ok u) h upper lower absent safe room added kept =
    subst (λ (ps : List Pair). IsWellFormed (record T { pairs = ps })) (sym added) (add_pair_keeps T p h upper lower absent safe room)
either_keeps T p new (Err e) h upper lower absent safe room added kept =
    subst (λ (ps : List Pair). IsWellFormed (record T { pairs = ps })) (sym kept) h
