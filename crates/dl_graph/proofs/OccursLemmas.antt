-- Which literals occur, by their numbers.
use Rattle.std.proofs.Common.{◌≡◌, ℕ, zero, suc, ◌<◌, ◌≤◌, ◌==◌, Bool, true, false, List, [], ◌∷◌, ◌++◌, Option, None, Some, length, get_or, map, replicate, refl, sym, ap, subst, ◌∙◌, arith, inl, inr, length-append}
use Rattle.std.specs.Prelude.{Any, Contains}
use Rattle.std.proofs.lemmas.Bool.{cases_lt}
use Rattle.std.proofs.lemmas.Bool.Decides.{Decides-eqb}
use Rattle.std.proofs.lemmas.Map.Made.{is_member-Decides}
use Rattle.std.proofs.lemmas.List.{get_or_default}
use Rattle.dl_base.proofs.Members.{mapped_from, Contains-mapped}
use Rattle.dl_lit.specs.declared.literal.Literal.{Literal}
use Rattle.dl_lit.specs.Order.{literal_eq-Decides}
use Rattle.dl_theory.specs.declared.rule.Rule.{Rule}
use Rattle.dl_theory.specs.Listings.{Occurs}
use Rattle.dl_rows.specs.Counting.{times, is_in}
use Rattle.dl_rows.specs.Rows.{places_from, places}
use Rattle.dl_rows.proofs.There.{has_there, there_has, has_within}
use Rattle.dl_graph.specs.Numbers.{NetLists, IsNumbered, literal_at, number, of_rule, head_row, body_row, is_fact}
use Rattle.dl_rules.proofs.PlaceLemmas.{one, times_single, times_once}
use Rattle.dl_rules.proofs.OnceLemmas.{stands}
use Rattle.dl_graph.proofs.FindLemmas.{number_finds, head_in, body_in}

module _ {X : Type 0} (f : X → List ℕ) (q : ℕ) where
  -- a row has the number where a place is listed
  pub some_row : (xs : List X) (k : ℕ) → 0 < length (places_from f k xs q) → Any (λ x. 0 < times q (f x)) xs
  some_row [] k h = absurd (omega (arith, h))
  some_row (x ∷ xs) k h =
      elim (cases_lt 0 (times q (f x))) [
        | inl has ↦ (0, x, omega arith, refl, has)
        | inr none ↦
            let empty : times q (f x) ≡ 0 = omega (arith, none) in
            let rest = some_row xs (suc k) (subst (λ (n : ℕ). 0 < length (replicate n k ++ places_from f (suc k) xs q)) empty h) in
            (suc rest.0, rest.1, omega (arith, rest.2), rest.3, rest.4)
      ]

  filled : (n k : ℕ) → 0 < n → 0 < length (replicate n k)
  filled zero k h = absurd (omega (arith, h))
  filled (suc n) k h = omega arith

  pub row_some : (xs : List X) (k i : ℕ) (x : X) → i < length xs → get_or xs i x ≡ x → 0 < times q (f x) → 0 < length (places_from f k xs q)
  row_some [] k i x lt is h = absurd (omega (arith, lt))
  row_some (y ∷ xs) k zero x lt is h =
      omega (
        arith,
        length-append (replicate (times q (f y)) k) (places_from f (suc k) xs q),
        filled (times q (f y)) k (subst (λ (z : X). 0 < times q (f z)) (sym is) h),
      )
  row_some (y ∷ xs) k (suc i) x lt is h =
      omega (arith, length-append (replicate (times q (f y)) k) (places_from f (suc k) xs q), row_some xs (suc k) i x (omega (arith, lt)) is h)

one_true : (b : Bool) → 0 < one b → b ≡ true
one_true true h = refl
one_true false h = absurd (omega (arith, h))

-- rules of the theory whose rows have a number, and the numbers that rules have
module _ (N : NetLists) (numbered : IsNumbered N) (f : Rule → List ℕ) (q : ℕ) where
  some_slot : 0 < length (places (of_rule f) N.rules q) → (r : Rule) × Contains N.theory.rules r × (0 < times q (f r))
  some_slot h =
      let any = some_row (of_rule f) q N.rules 0 h in
      by any.0 any.1 (get_or_default N.rules any.0 None any.1 any.2 ∙ any.3) any.4
    where
      by : (k : ℕ) (o : Option Rule) → get_or N.rules k None ≡ o → 0 < times q (of_rule f o) → (r : Rule) × Contains N.theory.rules r × (0 < times q (f r))
      by k None at has = absurd (omega (arith, has))
      by k (Some r) at has = (r, subst (λ (xs : List Rule). Contains xs r) (sym numbered.rules) (has_there N.rules r k at), has)

  slot_some : (r : Rule) → Contains N.theory.rules r → 0 < times q (f r) → 0 < length (places (of_rule f) N.rules q)
  slot_some r m has =
      let at = there_has N.rules r (subst (λ (xs : List Rule). Contains xs r) numbered.rules m) in
      let within = has_within N.rules r at.0 at.1 in
      row_some (of_rule f) q N.rules 0 at.0 (Some r) within (sym (get_or_default N.rules at.0 None (Some r) within) ∙ at.1) has

module _ (N : NetLists) (numbered : IsNumbered N) (n : ℕ) (lt : n < length N.names) where
  pub occurs_fact : is_fact N n ≡ true → Occurs N.theory (literal_at N n)
  occurs_fact e = inl ((is_member-Decides literal_eq-Decides N.theory.facts (literal_at N n)).0 e)

  pub fact_occurs : Contains N.theory.facts (literal_at N n) → is_fact N n ≡ true
  fact_occurs m = (is_member-Decides literal_eq-Decides N.theory.facts (literal_at N n)).1 m

  -- a literal with this number
  named : (q : Literal) → Contains N.names q → number N q ≡ n → q ≡ literal_at N n
  named q m e = sym (number_finds N numbered q m).1 ∙ ap (literal_at N) e

  pub occurs_head : 0 < length (places (of_rule (head_row N)) N.rules n) → Occurs N.theory (literal_at N n)
  occurs_head h =
      let any = some_slot N numbered (head_row N) n h in
      let same : n ≡ number N any.0.head = (Decides-eqb n (number N any.0.head)).0 (one_true (n == number N any.0.head) (omega (arith, times_single n (number N any.0.head), any.2))) in
      inr (any.1.0, any.0, any.1.1, any.1.2, inl (named any.0.head (head_in N numbered any.0 any.1) (sym same)))

  pub head_occurs : (r : Rule) → Contains N.theory.rules r → r.head ≡ literal_at N n → 0 < length (places (of_rule (head_row N)) N.rules n)
  head_occurs r m e =
      let same : (n == number N r.head) ≡ true = (Decides-eqb n (number N r.head)).1 (sym (numbered.distinct n lt) ∙ ap (number N) (sym e)) in
      slot_some N numbered (head_row N) n r m (omega (arith, times_single n (number N r.head), ap one same))

  pub occurs_use : 0 < length (places (of_rule (body_row N)) N.rules n) → Occurs N.theory (literal_at N n)
  occurs_use h =
      let any = some_slot N numbered (body_row N) n h in
      let there = (stands (map (number N) any.0.body) n).0
      (one_true (is_in (map (number N) any.0.body) n) (omega (arith, times_once (map (number N) any.0.body) n, any.2))) in
      let from = mapped_from (number N) any.0.body n there in
      inr (
        any.1.0,
        any.0,
        any.1.1,
        any.1.2,
        inr (subst (λ (q : Literal). Contains any.0.body q) (named from.0 (body_in N numbered any.0 any.1 from.0 from.1) from.2) from.1),
      )

  pub use_occurs : (r : Rule) → Contains N.theory.rules r → Contains r.body (literal_at N n) → 0 < length (places (of_rule (body_row N)) N.rules n)
  use_occurs r at m =
      let same : is_in (map (number N) r.body) n ≡ true =
      (stands (map (number N) r.body) n).1
      (subst (λ (k : ℕ). Contains (map (number N) r.body) k) (numbered.distinct n lt) (Contains-mapped (number N) r.body (literal_at N n) m)) in
      slot_some N numbered (body_row N) n r at (omega (arith, times_once (map (number N) r.body) n, ap one same))

  -- what is no fact, no head and in no body does not occur
  pub occurs_none : is_fact N n ≡ false → length (places (of_rule (head_row N)) N.rules n) ≤ 0 → length (places (of_rule (body_row N)) N.rules n) ≤ 0
      → ¬ Occurs N.theory (literal_at N n)
  occurs_none f h u (inl m) = let yes = fact_occurs m in cc
  occurs_none f h u (inr any) =
      elim any.4 [
        | inl head ↦ absurd (omega (arith, h, head_occurs any.1 (any.0, any.2, any.3) head))
        | inr body ↦ absurd (omega (arith, u, use_occurs any.1 (any.0, any.2, any.3) body))
      ]
