-- The rules below and above others with a pair more, and with a pair less.
use Rattle.std.proofs.Common.{◌≡◌, ◌≢◌, ℕ, ◌<◌, ◌&&◌, Bool, true, false, not, cond, Option, None, Some, List, [], ◌∷◌, ◌++◌, get_or, set, map, filter, refl, sym, ap, subst, ◌∙◌, arith}
use Rattle.std.specs.Prelude.{Contains, flat_map}
use Rattle.std.specs.Str.{bytes_eq}
use Rattle.std.proofs.lemmas.List.Elements.{All-contains}
use Rattle.std.proofs.lemmas.Slice.Eq.{bytes_eq-Decides}
use Rattle.dl_lit.specs.declared.literal.Literal.{Literal}
use Rattle.dl_theory.specs.declared.rule.Rule.{Rule}
use Rattle.dl_theory.specs.declared.rule.Pair.{Pair}
use Rattle.dl_theory.specs.Pairs.{pair_eq, pair_eq-Decides}
use Rattle.dl_theory.specs.Tests as test
use Rattle.dl_rows.specs.Counting.{times}
use Rattle.dl_rows.specs.Tables.{drop_item, list_of}
use Rattle.dl_rows.proofs.NumberLists.{alike}
use Rattle.dl_rules.specs.Lines.{Line}
use Rattle.dl_rules.proofs.PlaceLemmas.{places_all}
use Rattle.dl_rules.proofs.TakeLemmas.{drop_idle}
use Rattle.dl_graph.specs.Numbers.{NetLists, HasRule, rule_at, of_rule, mark_row, labelled, lowers_row, uppers_row}
use Rattle.dl_graph.specs.Above.{lower_step, upper_step}
use Rattle.dl_graph.proofs.Slots.{rule_there}
use Rattle.dl_net.specs.Linking.{AreRules, IsPairOf}
use Rattle.dl_net.proofs.AboveLemmas.{lower_here, lower_elsewhere, upper_here, upper_elsewhere, slots_changed, flat_map-push}
use Rattle.dl_net.proofs.DropLemmas.{drop_item-append}

-- the net with other pairs, by which the numbers of facts, rules and literals stay
abbrev with_pairs : NetLists → List Pair → NetLists
with_pairs N ps = record N { theory = record N.theory { pairs = ps } }

-- ---- one pair more

-- what pairs lead to, with one more
pub rows_more : (f : Pair → Rule → List ℕ) (ps : List Pair) (p : Pair) (rs : List (Option Rule))
    → map (of_rule (λ t. flat_map (λ q. f q t) ps ++ f p t)) rs ≡ map (of_rule (λ t. flat_map (λ q. f q t) (ps ++ p ∷ []))) rs
rows_more f ps p rs = ap (λ (F : Rule → List ℕ). map (of_rule F) rs) (λ i t. sym (flat_map-push (λ q. f q t) ps p) i)

-- ---- one pair less

module _ (N : NetLists) (label : List ℕ) (q : Rule → Bool) where
  abbrev marks : Rule → List ℕ
  marks r = mark_row (bytes_eq r.label label && q r)

  marked : (b v : Bool) → 0 < times 0 (mark_row (b && v)) → b ≡ true
  marked true v h = refl
  marked false v h = absurd (omega (arith, h))

  -- a rule with another label is not found by the label
  not_found : (n : ℕ) → HasRule N n → (rule_at N n).label ≢ label → ¬ Contains (labelled N label q) n
  not_found n hn differs m =
      All-contains (λ j. j ≢ n) (labelled N label q) n
      (places_all (of_rule marks) 0 (λ j. j ≢ n) N.rules 0 None
      (λ i j at within some e.
      let is : i ≡ n = omega (arith, at, e) in
      let here : get_or N.rules i None ≡ Some (rule_at N n) = ap (λ k. get_or N.rules k None) is ∙ rule_there N n hn in
      differs ((bytes_eq-Decides (rule_at N n).label label).0
      (marked (bytes_eq (rule_at N n).label label) (q (rule_at N n)) (subst (λ (o : Option Rule). 0 < times 0 (of_rule marks o)) here some)))))
      m refl

-- what the other pairs lead to is what all led to, without one rule
module _ (l : ℕ) (keep : Pair → Bool) (g : Pair → List ℕ) where
  pair_step : (p : Pair) (ps : List Pair) (b : Bool) → (b ≡ true → drop_item l (g p) ≡ g p) → (b ≡ false → drop_item l (g p) ≡ [])
      → drop_item l (g p) ++ flat_map g (filter keep ps) ≡ flat_map g (cond b (p ∷ filter keep ps) (filter keep ps))
  pair_step p ps true same none = ap (λ xs. xs ++ flat_map g (filter keep ps)) (same refl)
  pair_step p ps false same none = ap (λ xs. xs ++ flat_map g (filter keep ps)) (none refl)

  without_pair : (ps : List Pair) → ((p : Pair) → keep p ≡ true → drop_item l (g p) ≡ g p) → ((p : Pair) → keep p ≡ false → drop_item l (g p) ≡ [])
      → drop_item l (flat_map g ps) ≡ flat_map g (filter keep ps)
  without_pair [] same none = refl
  without_pair (p ∷ ps) same none =
      drop_item-append l (g p) (flat_map g ps)
      ∙ ap (λ xs. drop_item l (g p) ++ xs) (without_pair ps same none)
      ∙ pair_step p ps (keep p) (same p) (none p)

-- pairs that lead nowhere do not matter
module _ (keep : Pair → Bool) (g : Pair → List ℕ) where
  idle_step : (p : Pair) (ps : List Pair) (b : Bool) → (b ≡ false → g p ≡ []) → flat_map g (cond b (p ∷ filter keep ps) (filter keep ps)) ≡ g p ++ flat_map g (filter keep ps)
  idle_step p ps true none = refl
  idle_step p ps false none = sym (ap (λ xs. xs ++ flat_map g (filter keep ps)) (none refl))

  idle_pairs : (ps : List Pair) → ((p : Pair) → keep p ≡ false → g p ≡ []) → flat_map g (filter keep ps) ≡ flat_map g ps
  idle_pairs [] none = refl
  idle_pairs (p ∷ ps) none = idle_step p ps (keep p) (none p) ∙ ap (λ xs. g p ++ xs) (idle_pairs ps none)

module _ (N : NetLists) (ls : List Literal) (lines : List (Option Line)) (are : AreRules N ls lines) (p : Pair) (u l : ℕ) (pair : IsPairOf N p u l) where
  abbrev others : Pair → Bool
  others q = not (pair_eq q p)

  abbrev fewer : NetLists
  fewer = with_pairs N (filter (λ q. not (pair_eq q p)) N.theory.pairs)

  is_it : (q : Pair) → others q ≡ false → q ≡ p
  is_it q e = (pair_eq-Decides q p).0 (back (pair_eq q p) e)
    where
      back : (b : Bool) → not b ≡ false → b ≡ true
      back true f = refl
      back false f = cc

  is_other : (q : Pair) → others q ≡ true → q ≢ p
  is_other q e same = let there : pair_eq q p ≡ true = (pair_eq-Decides q p).1 same in cc

  drop_one : (b : Bool) (n : ℕ) → drop_item n (cond b (n ∷ []) []) ≡ []
  drop_one true n = ap (λ b. cond (not b) (n ∷ []) []) (alike n n refl)
  drop_one false n = refl

  -- the other pairs that lead from a rule do not lead to the one that this pair leads to
  idle_by : (b : Bool) (label : List ℕ) (q : Rule → Bool) (n : ℕ) → HasRule N n → (b ≡ true → (rule_at N n).label ≢ label)
      → drop_item n (cond b (labelled N label q) []) ≡ cond b (labelled N label q) []
  idle_by true label q n hn differs = drop_idle n (labelled N label q) (not_found N label q n hn (differs refl))
  idle_by false label q n hn differs = refl

  lower_left : lowers_row fewer (rule_at N u) ≡ drop_item l (lowers_row N (rule_at N u))
  lower_left =
      sym (without_pair l others (λ q. lower_step N q (rule_at N u)) N.theory.pairs
      (λ q e. idle_by (bytes_eq q.upper (rule_at N u).label) q.lower (test.is_opposing N.theory (rule_at N u).head) l pair.lower_there
      (λ up same. is_other q e (λ i. record {
        upper = ((bytes_eq-Decides q.upper (rule_at N u).label).0 up ∙ pair.upper_label) i;
        lower = (sym same ∙ pair.lower_label) i;
      })))
      (λ q e. ap (λ (x : Pair). drop_item l (lower_step N x (rule_at N u))) (is_it q e)
      ∙ ap (drop_item l) (lower_here N ls lines are p u l pair) ∙ drop_one (test.is_opposing N.theory (rule_at N u).head (rule_at N l)) l))

  upper_left : uppers_row fewer (λ _. true) (rule_at N l) ≡ drop_item u (uppers_row N (λ _. true) (rule_at N l))
  upper_left =
      sym (without_pair u others (λ q. upper_step N q (rule_at N l)) N.theory.pairs
      (λ q e. idle_by (bytes_eq q.lower (rule_at N l).label) q.upper (λ t. test.is_opposing N.theory t.head (rule_at N l) && true) u pair.upper_there
      (λ low same. is_other q e (λ i. record {
        upper = (sym same ∙ pair.upper_label) i;
        lower = ((bytes_eq-Decides q.lower (rule_at N l).label).0 low ∙ pair.lower_label) i;
      })))
      (λ q e. ap (λ (x : Pair). drop_item u (upper_step N x (rule_at N l))) (is_it q e)
      ∙ ap (drop_item u) (upper_here N ls lines are p u l pair) ∙ drop_one (test.is_opposing N.theory (rule_at N u).head (rule_at N l)) u))

  pub lowers_unlinked : map (of_rule (lowers_row fewer)) N.rules
      ≡ set (map (of_rule (lowers_row N)) N.rules) u (drop_item l (list_of (map (of_rule (lowers_row N)) N.rules) u))
  lowers_unlinked =
      slots_changed N (lowers_row N) (lowers_row fewer) (drop_item l) u pair.upper_there lower_left
      (λ i hi differs. idle_pairs others (λ q. lower_step N q (rule_at N i)) N.theory.pairs
      (λ q e. ap (λ (x : Pair). lower_step N x (rule_at N i)) (is_it q e) ∙ lower_elsewhere N ls lines are p u l pair i hi differs))

  pub uppers_unlinked : map (of_rule (uppers_row fewer (λ _. true))) N.rules
      ≡ set (map (of_rule (uppers_row N (λ _. true))) N.rules) l (drop_item u (list_of (map (of_rule (uppers_row N (λ _. true))) N.rules) l))
  uppers_unlinked =
      slots_changed N (uppers_row N (λ _. true)) (uppers_row fewer (λ _. true)) (drop_item u) l pair.lower_there upper_left
      (λ i hi differs. idle_pairs others (λ q. upper_step N q (rule_at N i)) N.theory.pairs
      (λ q e. ap (λ (x : Pair). upper_step N x (rule_at N i)) (is_it q e) ∙ upper_elsewhere N ls lines are p u l pair i hi differs))
