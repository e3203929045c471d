-- Positive literals, sorted, and after each its complement give the order of the literals.
use Rattle.std.proofs.Common.{◌≡◌, ◌≢◌, ◌∙◌, ℕ, ◌+◌, ◌<◌, true, List, [], ◌∷◌, ◌++◌, length, map, get_or, inl, inr, false, true≢false, eqb, refl, sym, ap, subst, arith}
use Rattle.std.specs.Prelude.{not, All, AllPairs, Contains}
use Rattle.std.specs.List.{IsDistinct, flat_map}
use Rattle.std.specs.List.Sorted.{IsPermutation, IsSorted}
use Rattle.std.specs.Option.{option_cmp}
use Rattle.std.specs.Ordering.{is_lt, nat_cmp, bool_cmp, ordering_reverse, ordering_then}
use Rattle.std.specs.declared.cmp.Ordering.{Ordering}
use Rattle.std.specs.declared.cmp.Ordering.TheVariants.{Less, Equal, Greater}
use Rattle.std.specs.Cmp.{nat_eq_equiv}
use Rattle.std.proofs.lemmas.Bool.{cases_Bool, cases_eq, cases_order, eqb-false, ne_eqb}
use Rattle.std.proofs.lemmas.Cmp.{tied_itself, nat_cmp_total}
use Rattle.std.proofs.lemmas.List.{map-append, get_or_default}
use Rattle.std.proofs.lemmas.List.Elements.{All-nil, All-cons, All-head, All-tail, All-push, All-weaker, All-map, All-contains, Contains-push, Contains-append_left}
use Rattle.std.proofs.lemmas.List.Quantifiers.{all_pairs_push}
use Rattle.std.proofs.lemmas.List.Sorted.{All-permutation, Contains-permutation, ranks_by, sorted_far}
use Rattle.std.proofs.lemmas.Map.Keys.{IsDistinct-from_apart, IsDistinct-IsPermutation, apart_from_distinct}
use Rattle.dl_base.proofs.Members.{Contains-mapped, mapped_from}
use Rattle.dl_lit.specs.declared.literal.Literal.{Literal}
use Rattle.dl_lit.specs.Borrowed.{literal_of}
use Rattle.dl_lit.specs.Literal.{complement}
use Rattle.dl_lit.specs.Order.{bytes_cmp, literal_cmp, literal_total, exact_literals}
use Rattle.dl_theory.specs.Listings.{Mentions, AreLiterals}
use Rattle.dl_theory.proofs.Closure.{complement_twice, mentions_complement}
use Rattle.dl_graph.specs.Numbers.{NetLists, IsNumbered, no_literal, literal_at, number, number_of_other}
use Rattle.dl_graph.proofs.FindLemmas.{other_finds}
use Rattle.dl_conclusions.specs.declared.placed.Placed.{Placed}
use Rattle.dl_conclusions.specs.Orders.{IsOrder}
use Rattle.dl_conclusions.specs.Placing.{IsPlaced, ArePlaced, placed_cmp, placed_total, pair_numbers}
use Rattle.dl_conclusions.proofs.Pairing.{both, all_both, in_order_both, has_both, pairs_map}
use Rattle.dl_conclusions.proofs.Prefixes.{less, less_by_prefix, name_bytes}

module _ (N : NetLists) (i : ℕ) (list : List Placed) (h : ArePlaced N i list) where
  pub one_more : (new : List Placed) (p : Placed) → p.number ≡ i → new ≡ list ++ p ∷ [] → IsPlaced N p → ArePlaced N (i + 1) new
  one_more new p is pushed placed = subst (λ (ps : List Placed). ArePlaced N (i + 1) ps) (sym pushed) (record {
    each = All-push (IsPlaced N) list p h.each placed;
    below = All-push (λ q. q.number < i + 1) list p
        (All-weaker (λ q. q.number < i) (λ q. q.number < i + 1) (λ q lt. omega (arith, lt)) list h.below) (omega (arith, is));
    rising = all_pairs_push (λ q r. q.number < r.number) list p h.rising (λ k d lt. omega (arith, is, h.below k d lt));
    complete = λ k lt up m. subst (λ (ns : List ℕ). Contains ns k) (sym (map-append (λ q. q.number) list (p ∷ []))) (elim (cases_eq k i) [
      | inl e ↦ subst (λ (n : ℕ). Contains (map (λ q. q.number) list ++ p.number ∷ []) n) (is ∙ sym e) (Contains-push (map (λ q. q.number) list) p.number)
      | inr apart ↦ Contains-append_left (map (λ q. q.number) list) (p.number ∷ []) k (h.complete k (omega (arith, lt, apart)) up m)
    ]);
  })

  pub none_more : ((literal_at N i).positive ≡ true → ¬ Mentions N.theory (literal_at N i)) → ArePlaced N (i + 1) list
  none_more dead = record {
    each = h.each;
    below = All-weaker (λ q. q.number < i) (λ q. q.number < i + 1) (λ q lt. omega (arith, lt)) list h.below;
    rising = h.rising;
    complete = λ k lt up m. elim (cases_eq k i) [
      | inl e ↦
          absurd (dead (sym (ap (λ (x : ℕ). (literal_at N x).positive) e) ∙ up) (subst (λ (x : ℕ). Mentions N.theory (literal_at N x)) e m))
      | inr apart ↦ h.complete k (omega (arith, lt, apart)) up m
    ];
  }

-- what an order of literals says where the other one is not before it
by_answer : (q r : Literal) (o : Ordering) → literal_cmp q r ≡ o → (¬ (q ≡ r)) → is_lt (literal_cmp r q) ≡ false → o ≡ Less
by_answer q r Less e apart later = refl
by_answer q r Equal e apart later = absurd (apart (exact_literals q r e))
by_answer q r Greater e apart later = absurd (true≢false (sym (ap is_lt (literal_total.antisymm r q ∙ ap ordering_reverse e)) ∙ later))

less_by_atom : (q r : Literal) → bytes_cmp q.atom r.atom ≡ Less → literal_cmp q r ≡ Less
less_by_atom q r h = ap (λ o. ordering_then o (ordering_then (option_cmp bytes_cmp q.mode r.mode) (bool_cmp r.positive q.positive))) h

module _ (N : NetLists) (numbered : IsNumbered N) where
  one_number : (p q : Placed) → IsPlaced N p → IsPlaced N q → literal_of p.literal ≡ literal_of q.literal → p.number ≡ q.number
  one_number p q is are e =
      sym (numbered.distinct p.number is.within) ∙ ap (number N) (sym is.literal ∙ e ∙ are.literal) ∙ numbered.distinct q.number are.within

  before : (p q : Placed) → IsPlaced N p → IsPlaced N q → p.number ≢ q.number → is_lt (placed_cmp q p) ≡ false
      → literal_cmp (literal_of p.literal) (literal_of q.literal) ≡ Less
  before p q is are apart later = elim (cases_order q.prefix p.prefix) [
    | inl e ↦
        let tied : nat_cmp q.prefix p.prefix ≡ Equal = ap (λ n. nat_cmp n p.prefix) e ∙ tied_itself nat_cmp_total p.prefix in
        by_answer (literal_of p.literal) (literal_of q.literal) (literal_cmp (literal_of p.literal) (literal_of q.literal)) refl (λ same. apart (one_number p q is are same))
        (sym (ap (λ o. is_lt (ordering_then o (literal_cmp (literal_of q.literal) (literal_of p.literal)))) tied) ∙ later)
    | inr (inl below) ↦
        absurd (true≢false (sym (ap (λ o. is_lt (ordering_then o (literal_cmp (literal_of q.literal) (literal_of p.literal)))) (less q.prefix p.prefix below)) ∙ later))
    | inr (inr above) ↦
        less_by_atom (literal_of p.literal) (literal_of q.literal)
        (less_by_prefix p.literal.atom.now q.literal.atom.now (name_bytes p.literal.atom.now is.spelled) (name_bytes q.literal.atom.now are.spelled) 8
        (omega (arith, above, is.prefix_is, are.prefix_is)))
  ]

-- both numbers of each pair stand for its literals
module _ (N : NetLists) (numbered : IsNumbered N) where
  within_pairs : (ps : List Placed) → All (IsPlaced N) ps → All (λ n. n < length N.names) (flat_map (pair_numbers N) ps)
  within_pairs [] h = All-nil (λ n. n < length N.names)
  within_pairs (p ∷ ps) h =
      let P = λ (n : ℕ). n < length N.names in
      let is = All-head (IsPlaced N) p ps h in
      All-cons P p.number (number_of_other N p.number ∷ flat_map (pair_numbers N) ps) is.within
      (All-cons P (number_of_other N p.number) (flat_map (pair_numbers N) ps) (other_finds N numbered p.number is.within).0
      (within_pairs ps (All-tail (IsPlaced N) p ps h)))

  literals_of_pairs : (ps : List Placed) → All (IsPlaced N) ps
      → map (literal_at N) (flat_map (pair_numbers N) ps) ≡ flat_map both (map (λ p. literal_of p.literal) ps)
  literals_of_pairs [] h = refl
  literals_of_pairs (p ∷ ps) h =
      let is = All-head (IsPlaced N) p ps h in
      let other : literal_at N (number_of_other N p.number) ≡ complement (literal_of p.literal) =
      (other_finds N numbered p.number is.within).1 ∙ ap complement (sym is.literal) in
      λ i. sym is.literal i ∷ other i ∷ literals_of_pairs ps (All-tail (IsPlaced N) p ps h) i

module _ (N : NetLists) (list sorted : List Placed) (numbered : IsNumbered N) (h : ArePlaced N (length N.names) list)
    (moved : IsPermutation list sorted) (up : IsSorted placed_cmp sorted) where
  each : All (IsPlaced N) sorted
  each = All-permutation (IsPlaced N) list sorted moved h.each

  pub numbers_within : All (λ p. p.number < length N.names) sorted
  numbers_within = All-weaker (IsPlaced N) (λ p. p.number < length N.names) (λ p is. is.within) sorted each

  distinct : IsDistinct (λ p q. eqb p.number q.number) sorted
  distinct =
      IsDistinct-IsPermutation (λ p q. eqb p.number q.number) (λ p q. nat_eq_equiv.symm p.number q.number) list sorted moved
      (IsDistinct-from_apart (λ p q. eqb p.number q.number) list
      (λ i j d lt within. ne_eqb (get_or list i d).number (get_or list j d).number (λ e. omega (arith, e, h.rising i j d lt within))))

  in_order : AllPairs (λ p q. literal_cmp (literal_of p.literal) (literal_of q.literal) ≡ Less) sorted
  in_order = λ i j d lt within.
      let p = get_or sorted i d in
      let q = get_or sorted j d in
      let apart = eqb-false p.number q.number (apart_from_distinct (λ x y. eqb x.number y.number) sorted i j d distinct lt within) in
      let later = sorted_far (λ x y. is_lt (placed_cmp x y)) (ranks_by placed_total (λ x. x)) sorted up i j d (omega (arith, lt)) within in
      before N numbered p q (each i d (omega (arith, lt, within))) (each j d within) apart later

  abbrev positives : List Literal
  positives = map (λ p. literal_of p.literal) sorted

  abbrev literals : List Literal
  literals = flat_map both positives

  -- each positive literal that is mentioned is among them
  there : (q : Literal) → q.positive ≡ true → Mentions N.theory q → Contains positives q
  there q positive m =
      let at = numbered.mentioned q m in
      let is : literal_at N at.0 ≡ q = get_or_default N.names at.0 no_literal q at.1 ∙ at.2 in
      let found = mapped_from (λ p. p.number) list at.0
      (h.complete at.0 at.1 (ap (λ (x : Literal). x.positive) is ∙ positive) (subst (λ (x : Literal). Mentions N.theory x) (sym is) m)) in
      let p = found.0 in
      let in_sorted = Contains-permutation list sorted p moved found.1 in
      subst (λ (x : Literal). Contains positives x)
      ((All-contains (IsPlaced N) sorted p each in_sorted).literal ∙ ap (literal_at N) found.2 ∙ is)
      (Contains-mapped (λ p. literal_of p.literal) sorted p in_sorted)

  complete : (q : Literal) → Mentions N.theory q → Contains literals q
  complete q m = elim (cases_Bool q.positive) [
    | inl positive ↦ (has_both positives q (there q positive m)).0
    | inr negative ↦
        subst (λ (x : Literal). Contains literals x) (complement_twice q)
        (has_both positives (complement q) (there (complement q) (ap not negative) (mentions_complement N.theory q m))).1
  ]

  listed : AreLiterals N.theory literals
  listed = record {
    in_order = in_order_both positives
        (All-map (λ q. q.positive ≡ true) (λ p. literal_of p.literal) sorted (All-weaker (IsPlaced N) (λ p. p.literal.positive ≡ true) (λ p is. is.positive) sorted each))
        (pairs_map (λ q r. literal_cmp q r ≡ Less) (λ p. literal_of p.literal) sorted in_order);
    sound = all_both (Mentions N.theory) positives
        (All-map (λ q. Mentions N.theory q × Mentions N.theory (complement q)) (λ p. literal_of p.literal) sorted
        (All-weaker (IsPlaced N) (λ p. Mentions N.theory (literal_of p.literal) × Mentions N.theory (complement (literal_of p.literal)))
        (λ p is. (is.mentioned, mentions_complement N.theory (literal_of p.literal) is.mentioned)) sorted each));
    complete = complete;
  }

  pub ordered : (numbers : List ℕ) → numbers ≡ flat_map (pair_numbers N) sorted → IsOrder N numbers
  ordered numbers are = subst (λ (ns : List ℕ). IsOrder N ns) (sym are) (record {
    within = within_pairs N numbered sorted each;
    listed = subst (λ (qs : List Literal). AreLiterals N.theory qs) (sym (literals_of_pairs N numbered sorted each)) listed;
  })
