-- The links of a numbered theory: turned round, and in the theory's own terms.
use Rattle.std.proofs.Common.{◌≡◌, ℕ, zero, suc, ◌+◌, ◌<◌, Bool, true, false, None, cond, List, [], ◌∷◌, length, map, get_or, inl, inr, sym, subst, ap, refl, ◌∙◌, arith, true≢false}
use Rattle.std.specs.Prelude.{Contains, IsTrue, ◌&&◌}
use Rattle.std.specs.List.{flat_map}
use Rattle.std.specs.Str.{bytes_eq}
use Rattle.std.proofs.lemmas.Slice.Eq.{bytes_eq-Decides}
use Rattle.std.proofs.lemmas.List.Concat.{flat_map-cons}
use Rattle.std.proofs.lemmas.Bool.{cases_eq, cases_lt}
use Rattle.std.proofs.lemmas.Map.Made.{is_member-Decides}
use Rattle.std.proofs.lemmas.List.Sums.{passes_at_first, fails_before_first}
use Rattle.dl_lit.specs.declared.literal.Literal.{Literal}
use Rattle.dl_lit.specs.Literal.{complement, literal_eq}
use Rattle.dl_lit.specs.Order.{literal_eq-Decides}
use Rattle.dl_theory.specs.declared.rule.Rule.{Rule}
use Rattle.dl_theory.specs.declared.rule.Pair.{Pair}
use Rattle.dl_theory.specs.Lists.{is_strict, can_support, IsStrictFor, Supports, Opposes, Beats, attackers}
use Rattle.dl_theory.specs.Tests as test
use Rattle.dl_base.proofs.Members.{only}
use Rattle.dl_fill.specs.Rivals.{Defending, Countering}
use Rattle.dl_fill.proofs.Attacks.{attack_turns}
use Rattle.dl_fill.proofs.Once.{once_sound, once_complete}
use Rattle.dl_graph.specs.Counting.{times}
use Rattle.dl_fill.proofs.Times.{times-append, times_cons_same, times_cons_other, eqb_swaps}
use Rattle.dl_graph.specs.Rows.{row, places}
use Rattle.dl_graph.specs.Numbers.{NetLists, IsNumbered, HasRule, no_literal, literal_at, rule_at, of_rule, number, body_row, backs_row, proves_row, attackers_row, opposes_row, mark_row, labelled, lowers_row, uppers_row, next, back, heads, head_row}
use Rattle.dl_graph.specs.declared.link.Link.{Link}
use Rattle.dl_graph.specs.declared.link.Link.TheVariants.{Same, Uses, Backs, Proves, Opposes as Opposing, Defends, Counters}
use Rattle.dl_graph.proofs.Slots.{has_rule, rule_in, row_of, row_none, row_has}
use Rattle.dl_fill.proofs.Rows.{places_turned}

abbrev one : Bool → ℕ
one b = cond b 1 0

bytes_turned : (a b : List ℕ) → bytes_eq a b ≡ bytes_eq b a
bytes_turned a b = same_truth (bytes_eq a b) (bytes_eq b a)
    (λ e. (bytes_eq-Decides b a).1 (sym ((bytes_eq-Decides a b).0 e))) (λ e. (bytes_eq-Decides a b).1 (sym ((bytes_eq-Decides b a).0 e)))
  where
    same_truth : (x y : Bool) → (x ≡ true → y ≡ true) → (y ≡ true → x ≡ true) → x ≡ y
    same_truth true y f g = sym (f refl)
    same_truth false true f g = g refl
    same_truth false false f g = refl

-- one number where the test holds, counted
mark_one : (b : Bool) → times 0 (mark_row b) ≡ one b
mark_one true = refl
mark_one false = refl

module _ (N : NetLists) where
  -- whether the rule at a place has the label and passes the test
  labelled_at : (label : List ℕ) (p : Rule → Bool) (j : ℕ) → HasRule N j
      → times j (labelled N label p) ≡ one (bytes_eq (rule_at N j).label label && p (rule_at N j))
  labelled_at label p j lt =
      places_turned (of_rule (λ r. mark_row (bytes_eq r.label label && p r))) N.rules j 0
      ∙ ap (times 0) (row_of N (λ r. mark_row (bytes_eq r.label label && p r)) j lt)
      ∙ mark_one (bytes_eq (rule_at N j).label label && p (rule_at N j))

  labelled_past : (label : List ℕ) (p : Rule → Bool) (j : ℕ) → get_or N.rules j None ≡ None → times j (labelled N label p) ≡ 0
  labelled_past label p j ge =
      places_turned (of_rule (λ r. mark_row (bytes_eq r.label label && p r))) N.rules j 0
      ∙ ap (times 0) (row_none N (λ r. mark_row (bytes_eq r.label label && p r)) j ge)

  -- the rules of one pair that a rule is superior to, and those that are superior to it
  abbrev lower_of : Rule → Pair → List ℕ
  lower_of t p = cond (bytes_eq p.upper t.label) (labelled N p.lower (test.is_opposing N.theory t.head)) []

  abbrev upper_of : (Rule → Bool) → Rule → Pair → List ℕ
  upper_of q u p = cond (bytes_eq p.lower u.label) (labelled N p.upper (λ t. test.is_opposing N.theory t.head u && q t)) []

  none_if : (b : Bool) (j : ℕ) (xs : List ℕ) → times j xs ≡ 0 → times j (cond b xs []) ≡ 0
  none_if true j xs e = e
  none_if false j xs e = refl

  lowers_past : (t : Rule) (j : ℕ) → get_or N.rules j None ≡ None → (ps : List Pair) → times j (flat_map (lower_of t) ps) ≡ 0
  lowers_past t j ge [] = refl
  lowers_past t j ge (p ∷ ps) =
      ap (times j) (flat_map-cons (lower_of t) p ps)
      ∙ omega (
        arith,
        times-append j (lower_of t p) (flat_map (lower_of t) ps),
        none_if (bytes_eq p.upper t.label) j (labelled N p.lower (test.is_opposing N.theory t.head))
            (labelled_past p.lower (test.is_opposing N.theory t.head) j ge),
        lowers_past t j ge ps,
      )

  uppers_past : (q : Rule → Bool) (u : Rule) (j : ℕ) → get_or N.rules j None ≡ None → (ps : List Pair) → times j (flat_map (upper_of q u) ps) ≡ 0
  uppers_past q u j ge [] = refl
  uppers_past q u j ge (p ∷ ps) =
      ap (times j) (flat_map-cons (upper_of q u) p ps)
      ∙ omega (
        arith,
        times-append j (upper_of q u p) (flat_map (upper_of q u) ps),
        none_if (bytes_eq p.lower u.label) j (labelled N p.upper (λ t. test.is_opposing N.theory t.head u && q t))
            (labelled_past p.upper (λ t. test.is_opposing N.theory t.head u && q t) j ge),
        uppers_past q u j ge ps,
      )

  count_if : (b : Bool) (j n : ℕ) (xs : List ℕ) → times j xs ≡ n → times j (cond b xs []) ≡ cond b n 0
  count_if true j n xs e = e
  count_if false j n xs e = refl

  weigh : (x y o q : Bool) → q ≡ true → cond x (one (y && o)) 0 ≡ cond y (one (x && (o && q))) 0
  weigh x y o false e = absurd (true≢false (sym e))
  weigh true true true true e = refl
  weigh true true false true e = refl
  weigh true false o true e = refl
  weigh false true o true e = refl
  weigh false false o true e = refl

  weightless : (x y o q : Bool) → q ≡ false → cond y (one (x && (o && q))) 0 ≡ 0
  weightless x y o true e = absurd (true≢false e)
  weightless true true true false e = refl
  weightless true true false false e = refl
  weightless false true o false e = refl
  weightless x false o false e = refl

  module _ (q : Rule → Bool) (t u : ℕ) (lt : HasRule N t) (lu : HasRule N u) where
    upper_count : (p : Pair) → times t (upper_of q (rule_at N u) p)
        ≡ cond (bytes_eq p.lower (rule_at N u).label) (one (bytes_eq (rule_at N t).label p.upper && (test.is_opposing N.theory (rule_at N t).head (rule_at N u) && q (rule_at N t)))) 0
    upper_count p =
        count_if (bytes_eq p.lower (rule_at N u).label) t _ (labelled N p.upper (λ t. test.is_opposing N.theory t.head (rule_at N u) && q t))
        (labelled_at p.upper (λ t. test.is_opposing N.theory t.head (rule_at N u) && q t) t lt)

    lower_count : (p : Pair) → times u (lower_of (rule_at N t) p)
        ≡ cond (bytes_eq (rule_at N t).label p.upper) (one (bytes_eq p.lower (rule_at N u).label && test.is_opposing N.theory (rule_at N t).head (rule_at N u))) 0
    lower_count p =
        count_if (bytes_eq p.upper (rule_at N t).label) u _ (labelled N p.lower (test.is_opposing N.theory (rule_at N t).head))
        (labelled_at p.lower (test.is_opposing N.theory (rule_at N t).head) u lu)
        ∙ ap (λ (b : Bool). cond b (one (bytes_eq (rule_at N u).label p.lower && test.is_opposing N.theory (rule_at N t).head (rule_at N u))) 0)
        (bytes_turned p.upper (rule_at N t).label)
        ∙ ap (λ (b : Bool). cond (bytes_eq (rule_at N t).label p.upper) (one (b && test.is_opposing N.theory (rule_at N t).head (rule_at N u))) 0)
        (bytes_turned (rule_at N u).label p.lower)

    pairs_turned : q (rule_at N t) ≡ true → (ps : List Pair) → times u (flat_map (lower_of (rule_at N t)) ps) ≡ times t (flat_map (upper_of q (rule_at N u)) ps)
    pairs_turned e [] = refl
    pairs_turned e (p ∷ ps) =
        ap (times u) (flat_map-cons (lower_of (rule_at N t)) p ps)
        ∙ omega (
          arith,
          times-append u (lower_of (rule_at N t) p) (flat_map (lower_of (rule_at N t)) ps),
          times-append t (upper_of q (rule_at N u) p) (flat_map (upper_of q (rule_at N u)) ps),
          lower_count p
              ∙ weigh (bytes_eq (rule_at N t).label p.upper) (bytes_eq p.lower (rule_at N u).label) (test.is_opposing N.theory (rule_at N t).head (rule_at N u)) (q (rule_at N t)) e
              ∙ sym (upper_count p),
          pairs_turned e ps,
        )
        ∙ sym (ap (times t) (flat_map-cons (upper_of q (rule_at N u)) p ps))

    none_above : q (rule_at N t) ≡ false → (ps : List Pair) → times t (flat_map (upper_of q (rule_at N u)) ps) ≡ 0
    none_above e [] = refl
    none_above e (p ∷ ps) =
        ap (times t) (flat_map-cons (upper_of q (rule_at N u)) p ps)
        ∙ omega (
          arith,
          times-append t (upper_of q (rule_at N u) p) (flat_map (upper_of q (rule_at N u)) ps),
          upper_count p ∙ weightless (bytes_eq (rule_at N t).label p.upper) (bytes_eq p.lower (rule_at N u).label) (test.is_opposing N.theory (rule_at N t).head (rule_at N u)) (q (rule_at N t)) e,
          none_above e ps,
        )

  -- the rules below those that pass a test, turned round
  lowers_turned : (q : Rule → Bool) (t u : ℕ)
      → times u (row (of_rule (λ r. cond (q r) (lowers_row N r) [])) N.rules t) ≡ times t (row (of_rule (uppers_row N q)) N.rules u)
  lowers_turned q t u =
      elim (has_rule N t) [
        | inl lt ↦ ap (times u) (row_of N (λ r. cond (q r) (lowers_row N r) []) t lt) ∙ (elim (has_rule N u) [
          | inl lu ↦
              (elim (q (rule_at N t)) as (λ b. q (rule_at N t) ≡ b → times u (cond b (lowers_row N (rule_at N t)) []) ≡ times t (uppers_row N q (rule_at N u))) [
                | true ↦ λ e. pairs_turned q t u lt lu e N.theory.pairs
                | false ↦ λ e. sym (none_above q t u lt lu e N.theory.pairs)
              ]) refl
              ∙ sym (ap (times t) (row_of N (uppers_row N q) u lu))
          | inr gu ↦
              none_if (q (rule_at N t)) u (lowers_row N (rule_at N t)) (lowers_past (rule_at N t) u gu N.theory.pairs)
              ∙ sym (ap (times t) (row_none N (uppers_row N q) u gu))
        ])
        | inr gt ↦ ap (times u) (row_none N (λ r. cond (q r) (lowers_row N r) []) t gt) ∙ (elim (has_rule N u) [
          | inl lu ↦ sym (ap (times t) (row_of N (uppers_row N q) u lu) ∙ uppers_past q (rule_at N u) t gt N.theory.pairs)
          | inr gu ↦ sym (ap (times t) (row_none N (uppers_row N q) u gu))
        ])
      ]

-- a link, turned round
pub links_turned : (N : NetLists) (link : Link) (x y : ℕ) → times y (next N link x) ≡ times x (back N link y)
links_turned N Same x y = ap (λ b. one b + 0) (eqb_swaps y x)
links_turned N Uses x y = places_turned (of_rule (body_row N)) N.rules y x
links_turned N Backs x y = sym (places_turned (of_rule (backs_row N)) N.rules x y)
links_turned N Proves x y = sym (places_turned (of_rule (proves_row N)) N.rules x y)
links_turned N Opposing x y = sym (places_turned (of_rule (opposes_row N)) N.rules x y)
links_turned N Defends x y = lowers_turned N (λ t. can_support t.kind) x y
links_turned N Counters x y = lowers_turned N (λ t. true) x y

-- the list has exactly the numbers of the rules with R
pub record IsListing (N : NetLists) (R : Rule → Type 0) (xs : List ℕ) : Type 0 where
  pub sound : (r : ℕ) → 0 < times r xs → HasRule N r × R (rule_at N r)
  pub complete : (r : ℕ) → HasRule N r → R (rule_at N r) → 0 < times r xs

pub single : (x y : ℕ) → 0 < times x (y ∷ []) → x ≡ y
single x y h = elim (cases_eq x y) [ inl e ↦ e | inr n ↦ absurd (omega (arith, times_cons_other x y [] n)) ]

pub single_has : (x y : ℕ) → x ≡ y → 0 < times x (y ∷ [])
single_has x y e = omega (arith, times_cons_same x y [] e)

module _ (N : NetLists) (numbered : IsNumbered N) where
  place_of : (q : Literal) → Contains N.names q → (number N q < length N.names) × (literal_at N (number N q) ≡ q)
  place_of q m =
      let p = λ (x : Literal). literal_eq x q in
      elim (cases_lt (number N q) (length N.names)) [
        | inl lt ↦ (lt, (literal_eq-Decides (literal_at N (number N q)) q).0 (passes_at_first p N.names no_literal lt))
        | inr ge ↦
            absurd (true≢false (sym ((literal_eq-Decides (get_or N.names m.0 q) q).1 m.2) ∙ fails_before_first p N.names m.0 q (omega (arith, m.1))))
      ]

  -- a number below the names is that of its literal
  pub number_of : (q : Literal) → number N q < length N.names → literal_at N (number N q) ≡ q
  number_of q lt = (literal_eq-Decides (literal_at N (number N q)) q).0 (passes_at_first (λ (x : Literal). literal_eq x q) N.names no_literal lt)

  pub number_inside : (q : Literal) → Contains N.names q → number N q < length N.names
  number_inside q m = (place_of q m).0

  pub number_finds : (q : Literal) → Contains N.names q → literal_at N (number N q) ≡ q
  number_finds q m = (place_of q m).1

  -- the places of the rules in whose rows q stands
  listing : (f : Rule → List ℕ) (R : Rule → Type 0) (q : ℕ)
      → ((r : ℕ) → HasRule N r → 0 < times q (f (rule_at N r)) → R (rule_at N r))
      → ((r : ℕ) → HasRule N r → R (rule_at N r) → 0 < times q (f (rule_at N r)))
      → IsListing N R (places (of_rule f) N.rules q)
  listing f R q to from = record {
    sound = λ r m.
        let at = row_has N f r q (omega (arith, m, places_turned (of_rule f) N.rules r q)) in
        (at.0, to r at.0 at.1);
    complete = λ r lt h. omega (arith, from r lt h, places_turned (of_rule f) N.rules r q, ap (times q) (row_of N f r lt));
  }

  pub head_in : (r : ℕ) → HasRule N r → Contains N.names (rule_at N r).head
  head_in r lt = numbered.mentioned (rule_at N r).head (let m = rule_in N numbered r lt in inl (inr (m.0, rule_at N r, m.1, m.2, inl refl)))

  pub kind_row : (b : Bool) (q : ℕ) (x : ℕ) → 0 < times q (cond b (x ∷ []) []) → (b ≡ true) × (q ≡ x)
  kind_row true q x h = (refl, single q x h)
  kind_row false q x h = absurd (omega arith)

  kind_has : (b : Bool) (q : ℕ) (x : ℕ) → b ≡ true → q ≡ x → 0 < times q (cond b (x ∷ []) [])
  kind_has b q x e s = subst (λ (v : Bool). 0 < times q (cond v (x ∷ []) [])) (sym e) (single_has q x s)

  pub backs_listing : (q : ℕ) → q < length N.names → IsListing N (Supports (literal_at N q)) (back N Backs q)
  backs_listing q inside =
      listing (backs_row N) (Supports (literal_at N q)) q
      (λ r lt h. let k = kind_row (can_support (rule_at N r).kind) q (number N (rule_at N r).head) h in
      (sym (number_finds (rule_at N r).head (head_in r lt)) ∙ ap (literal_at N) (sym k.1), k.0))
      (λ r lt h. kind_has (can_support (rule_at N r).kind) q (number N (rule_at N r).head) h.1
      (sym (numbered.distinct q inside) ∙ ap (number N) (sym h.0)))

  pub proves_listing : (q : ℕ) → q < length N.names → IsListing N (IsStrictFor (literal_at N q)) (back N Proves q)
  proves_listing q inside =
      listing (proves_row N) (IsStrictFor (literal_at N q)) q
      (λ r lt h. let k = kind_row (is_strict (rule_at N r).kind) q (number N (rule_at N r).head) h in
      (sym (number_finds (rule_at N r).head (head_in r lt)) ∙ ap (literal_at N) (sym k.1), k.0))
      (λ r lt h. kind_has (is_strict (rule_at N r).kind) q (number N (rule_at N r).head) h.1
      (sym (numbered.distinct q inside) ∙ ap (number N) (sym h.0)))

  -- the rules with that head
  pub heads_listing : (q : ℕ) → q < length N.names → IsListing N (λ r. r.head ≡ literal_at N q) (heads N q)
  heads_listing q inside =
      listing (head_row N) (λ r. r.head ≡ literal_at N q) q
      (λ r lt h. sym (number_finds (rule_at N r).head (head_in r lt)) ∙ ap (literal_at N) (sym (single q (number N (rule_at N r).head) h)))
      (λ r lt h. single_has q (number N (rule_at N r).head) (sym (numbered.distinct q inside) ∙ ap (number N) (sym h)))

  -- what attacks a literal that has a number has one
  pub attacker_named : (q c : Literal) → Contains N.names q → Contains (attackers N.theory q) c → Contains N.names c
  attacker_named q c h m = subst (Contains N.names) (sym (only (complement q) c m)) (numbered.complements q h)

  -- the numbers of a list of literals
  pub numbers_sound : (xs : List Literal) (b : ℕ) → 0 < times b (map (number N) xs) → (x : Literal) × Contains xs x × (number N x ≡ b)
  numbers_sound [] b h = absurd (omega arith)
  numbers_sound (x ∷ xs) b h = elim (cases_eq b (number N x)) [
    | inl e ↦ (x, (0, (omega arith), refl), sym e)
    | inr n ↦
        let r = numbers_sound xs b (omega (arith, times_cons_other b (number N x) (map (number N) xs) n)) in
        (r.0, (suc r.1.0, (omega (arith, r.1.1)), r.1.2), r.2)
  ]

  pub numbers_complete : (xs : List Literal) (k : ℕ) (d : Literal) → k < length xs → 0 < times (number N (get_or xs k d)) (map (number N) xs)
  numbers_complete [] k d h = absurd (omega arith)
  numbers_complete (x ∷ xs) zero d h = omega (arith, times_cons_same (number N x) (number N x) (map (number N) xs) refl)
  numbers_complete (x ∷ xs) (suc k) d h =
      elim (cases_eq (number N (get_or xs k d)) (number N x)) [
        | inl e ↦ omega (arith, times_cons_same (number N (get_or xs k d)) (number N x) (map (number N) xs) e)
        | inr n ↦ omega (arith, times_cons_other (number N (get_or xs k d)) (number N x) (map (number N) xs) n, numbers_complete xs k d (omega arith))
      ]

  pub body_in : (r : ℕ) → HasRule N r → (b : Literal) → Contains (rule_at N r).body b → Contains N.names b
  body_in r lt b m = let n = rule_in N numbered r lt in numbered.mentioned b (inl (inr (n.0, rule_at N r, n.1, n.2, inr m)))

  -- the numbers of a body stand for its literals
  pub body_sound : (r : ℕ) → HasRule N r → (b : ℕ) → 0 < times b (back N Uses r) → Contains (rule_at N r).body (literal_at N b) × (b < length N.names)
  body_sound r lt b h =
      let s =
      numbers_sound (rule_at N r).body b
      (once_sound b (map (number N) (rule_at N r).body) (subst (λ (xs : List ℕ). 0 < times b xs) (row_of N (body_row N) r lt) h)) in
      let inside = body_in r lt s.0 s.1 in
      let e : s.0 ≡ literal_at N b = sym (number_finds s.0 inside) ∙ ap (literal_at N) s.2 in
      (subst (Contains (rule_at N r).body) e s.1, subst (λ (n : ℕ). n < length N.names) s.2 (number_inside s.0 inside))

  pub body_complete : (r : ℕ) → HasRule N r → (k : ℕ) (d : Literal) → k < length (rule_at N r).body
      → 0 < times (number N (get_or (rule_at N r).body k d)) (back N Uses r)
  body_complete r lt k d h =
      subst (λ (xs : List ℕ). 0 < times (number N (get_or (rule_at N r).body k d)) xs) (sym (row_of N (body_row N) r lt))
      (once_complete (number N (get_or (rule_at N r).body k d)) (map (number N) (rule_at N r).body) (numbers_complete (rule_at N r).body k d h))

  pub opposes_listing : (q : ℕ) → q < length N.names → IsListing N (Opposes N.theory (literal_at N q)) (back N Opposing q)
  opposes_listing q inside =
      listing (opposes_row N) (Opposes N.theory (literal_at N q)) q
      (λ r lt h.
      let s = numbers_sound (attackers N.theory (rule_at N r).head) q h in
      let e : s.0 ≡ literal_at N q = sym (number_finds s.0 (attacker_named (rule_at N r).head s.0 (head_in r lt) s.1)) ∙ ap (literal_at N) s.2 in
      attack_turns N.theory (rule_at N r).head (literal_at N q) (subst (Contains (attackers N.theory (rule_at N r).head)) e s.1))
      (λ r lt h.
      let m = attack_turns N.theory (literal_at N q) (rule_at N r).head h in
      subst (λ (n : ℕ). 0 < times n (attackers_row N (rule_at N r).head)) (ap (number N) m.2 ∙ numbered.distinct q inside)
      (numbers_complete (attackers N.theory (rule_at N r).head) m.0 (literal_at N q) m.1))

  -- a pair above u
  above_sound : (p : Rule → Bool) (u : Rule) (r : ℕ) (ps : List Pair) → HasRule N r → 0 < times r (flat_map (upper_of N p u) ps)
      → Contains ps (record { upper = (rule_at N r).label; lower = u.label }) × (test.is_opposing N.theory (rule_at N r).head u ≡ true) × (p (rule_at N r) ≡ true)
  above_sound p u r [] lt h = absurd (omega arith)
  above_sound p u r (pair ∷ ps) lt h =
      elim (cases_eq (times r (upper_of N p u pair)) 0) [
        | inl none ↦
            let m = above_sound p u r ps lt (omega (arith, h, ap (times r) (flat_map-cons (upper_of N p u) pair ps), times-append r (upper_of N p u pair) (flat_map (upper_of N p u) ps))) in
            ((suc m.0.0, (omega (arith, m.0.1)), m.0.2), m.1, m.2)
        | inr some ↦
            let c = counted (bytes_eq pair.lower u.label) (bytes_eq (rule_at N r).label pair.upper) (test.is_opposing N.theory (rule_at N r).head u) (p (rule_at N r))
            (subst (λ (n : ℕ). 0 < n)
            (count_if N (bytes_eq pair.lower u.label) r _ (labelled N pair.upper (λ t. test.is_opposing N.theory t.head u && p t))
            (labelled_at N pair.upper (λ t. test.is_opposing N.theory t.head u && p t) r lt)) (omega arith)) in
            let lower : pair.lower ≡ u.label = (bytes_eq-Decides pair.lower u.label).0 c.0 in
            let upper : pair.upper ≡ (rule_at N r).label = sym ((bytes_eq-Decides (rule_at N r).label pair.upper).0 c.1) in
            ((0, omega arith, λ i. record { upper = upper i; lower = lower i }), c.2, c.3)
      ]
    where
      counted : (y x o q : Bool) → 0 < cond y (one (x && (o && q))) 0 → (y ≡ true) × (x ≡ true) × (o ≡ true) × (q ≡ true)
      counted true true true true h = (refl, refl, refl, refl)
      counted true true true false h = absurd (omega arith)
      counted true true false q h = absurd (omega arith)
      counted true false o q h = absurd (omega arith)
      counted false x o q h = absurd (omega arith)

  above_complete : (p : Rule → Bool) (u : Rule) (r : ℕ) (ps : List Pair) (k : ℕ) (d : Pair) → HasRule N r → k < length ps
      → get_or ps k d ≡ record { upper = (rule_at N r).label; lower = u.label }
      → test.is_opposing N.theory (rule_at N r).head u ≡ true → p (rule_at N r) ≡ true → 0 < times r (flat_map (upper_of N p u) ps)
  above_complete p u r [] k d lt h e o q = absurd (omega arith)
  above_complete p u r (pair ∷ ps) zero d lt h e o q =
      let lower : bytes_eq pair.lower u.label ≡ true = (bytes_eq-Decides pair.lower u.label).1 (ap (λ x. x.lower) e) in
      let upper : bytes_eq (rule_at N r).label pair.upper ≡ true = (bytes_eq-Decides (rule_at N r).label pair.upper).1 (sym (ap (λ x. x.upper) e)) in
      omega (
        arith,
        ap (times r) (flat_map-cons (upper_of N p u) pair ps),
        times-append r (upper_of N p u pair) (flat_map (upper_of N p u) ps),
        count_if N (bytes_eq pair.lower u.label) r _ (labelled N pair.upper (λ t. test.is_opposing N.theory t.head u && p t))
            (labelled_at N pair.upper (λ t. test.is_opposing N.theory t.head u && p t) r lt),
        counts (bytes_eq pair.lower u.label) (bytes_eq (rule_at N r).label pair.upper) (test.is_opposing N.theory (rule_at N r).head u) (p (rule_at N r)) lower upper o q,
      )
    where
      counts : (y x o q : Bool) → y ≡ true → x ≡ true → o ≡ true → q ≡ true → cond y (one (x && (o && q))) 0 ≡ 1
      counts true true true true e f g h = refl
      counts true true true false e f g h = absurd (true≢false (sym h))
      counts true true false q e f g h = absurd (true≢false (sym g))
      counts true false o q e f g h = absurd (true≢false (sym f))
      counts false x o q e f g h = absurd (true≢false (sym e))
  above_complete p u r (pair ∷ ps) (suc k) d lt h e o q =
      omega (
        arith,
        ap (times r) (flat_map-cons (upper_of N p u) pair ps),
        times-append r (upper_of N p u pair) (flat_map (upper_of N p u) ps),
        above_complete p u r ps k d lt (omega arith) e o q,
      )

  -- the rules above u, for what the head of u attacks, that pass a test
  above_listing : (p : Rule → Bool) (u : ℕ) → HasRule N u
      → IsListing N (λ t. Beats N.theory t (rule_at N u) × Opposes N.theory t.head (rule_at N u) × IsTrue (p t)) (row (of_rule (uppers_row N p)) N.rules u)
  above_listing p u inside =
      subst (IsListing N (λ t. Beats N.theory t (rule_at N u) × Opposes N.theory t.head (rule_at N u) × IsTrue (p t)))
      (sym (row_of N (uppers_row N p) u inside))
      (record {
        sound = λ r m. elim (has_rule N r) [
          | inl lt ↦
              let s = above_sound p (rule_at N u) r N.theory.pairs lt m in
              (lt, (s.0, (is_member-Decides literal_eq-Decides (attackers N.theory (rule_at N r).head) (rule_at N u).head).0 s.1, s.2))
          | inr ge ↦ absurd (omega (arith, m, uppers_past N p (rule_at N u) r ge N.theory.pairs))
        ];
        complete = λ r lt h.
            above_complete p (rule_at N u) r N.theory.pairs h.0.0 _ lt h.0.1 h.0.2
            ((is_member-Decides literal_eq-Decides (attackers N.theory (rule_at N r).head) (rule_at N u).head).1 h.1) h.2;
      })

  -- the rules that defend their head against u
  pub defends_listing : (u : ℕ) → HasRule N u → IsListing N (Defending N.theory (rule_at N u)) (back N Defends u)
  defends_listing u inside = above_listing (λ t. can_support t.kind) u inside

  -- the rules that counter t
  pub counters_listing : (t : ℕ) → HasRule N t → IsListing N (Countering N.theory (rule_at N t)) (back N Counters t)
  counters_listing t inside =
      let l = above_listing (λ u. true) t inside in
      record {
        sound = λ r m. let s = l.sound r m in (s.0, (s.1.0, s.1.1));
        complete = λ r lt h. l.complete r lt (h.0, h.1, refl);
      }
