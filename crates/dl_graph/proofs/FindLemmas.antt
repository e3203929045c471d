-- The numbers that a graph gives.
use Rattle.std.proofs.Common.{◌≡◌, ℕ, suc, ◌+◌, ◌<◌, ◌≤◌, ◌==◌, Bool, true, false, List, [], ◌∷◌, ◌++◌, length, get_or, replicate, refl, sym, ap, ◌∙◌, arith, inl, inr}
use Rattle.std.specs.Prelude.{All, Contains}
use Rattle.std.specs.Bool.{Decides}
use Rattle.std.proofs.lemmas.Bool.Decides.{Decides-eqb, Decides-like, same_from_decides}
use Rattle.std.proofs.lemmas.List.{get_or_default}
use Rattle.std.proofs.lemmas.List.Elements.{All-head, All-tail, Contains-get_or}
use Rattle.dl_lit.specs.declared.literal.Literal.{Literal}
use Rattle.dl_lit.specs.Literal.{complement}
use Rattle.dl_theory.specs.declared.rule.Rule.{Rule}
use Rattle.dl_rows.specs.Counting.{times}
use Rattle.dl_rows.specs.Rows.{row, places_from, places}
use Rattle.dl_graph.specs.Numbers.{NetLists, IsNumbered, no_literal, literal_at, number, number_of_other, HasRule, rule_at, of_rule, head_row, opposes_row}
use Rattle.dl_names.proofs.NameLemmas.{complement_twice}
use Rattle.dl_rules.proofs.PlaceLemmas.{one, times_single}
use Rattle.dl_graph.proofs.Slots.{rule_in, has_rule, row_of, row_none, all_slots}

pub places_same : {X : Type 0} (f g : X → List ℕ) (q r : ℕ) (xs : List X) (k : ℕ) → All (λ x. times q (f x) ≡ times r (g x)) xs
    → places_from f k xs q ≡ places_from g k xs r
places_same f g q r [] k h = refl
places_same f g q r (x ∷ xs) k h = λ i.
    replicate (All-head (λ y. times q (f y) ≡ times r (g y)) x xs h i) k
    ++ places_same f g q r xs (suc k) (All-tail (λ y. times q (f y) ≡ times r (g y)) x xs h) i

pub places_none : {X : Type 0} (f : X → List ℕ) (q : ℕ) (xs : List X) (k : ℕ) → All (λ x. times q (f x) ≡ 0) xs → places_from f k xs q ≡ []
places_none f q [] k h = refl
places_none f q (x ∷ xs) k h =
    ap (λ n. replicate n k ++ places_from f (suc k) xs q) (All-head (λ y. times q (f y) ≡ 0) x xs h)
    ∙ places_none f q xs (suc k) (All-tail (λ y. times q (f y) ≡ 0) x xs h)

module _ (N : NetLists) (numbered : IsNumbered N) where
  -- a literal that has a number
  pub number_finds : (q : Literal) → Contains N.names q → (number N q < length N.names) × (literal_at N (number N q) ≡ q)
  number_finds q m =
      let at : literal_at N m.0 ≡ q = get_or_default N.names m.0 no_literal q m.1 ∙ m.2 in
      let is : number N q ≡ m.0 = ap (number N) (sym at) ∙ numbered.distinct m.0 m.1 in
      (omega (arith, is, m.1), ap (literal_at N) is ∙ at)

  pub head_in : (r : Rule) → Contains N.theory.rules r → Contains N.names r.head
  head_in r m = numbered.mentioned r.head (inl (inr (m.0, r, m.1, m.2, inl refl)))

  pub body_in : (r : Rule) → Contains N.theory.rules r → (q : Literal) → Contains r.body q → Contains N.names q
  body_in r at q m = numbered.mentioned q (inl (inr (at.0, r, at.1, at.2, inr m)))

  pub head_named : (k : ℕ) → HasRule N k → Contains N.names (rule_at N k).head
  head_named k h = head_in (rule_at N k) (rule_in N numbered k h)

  pub named_at : (n : ℕ) → n < length N.names → Contains N.names (literal_at N n)
  named_at n lt = Contains-get_or N.names n no_literal lt

  pub other_finds : (n : ℕ) → n < length N.names → (number_of_other N n < length N.names) × (literal_at N (number_of_other N n) ≡ complement (literal_at N n))
  other_finds n lt = number_finds (complement (literal_at N n)) (numbered.complements (literal_at N n) (named_at n lt))

  -- a literal attacks those whose complement it is, and they attack it
  pub opposes_turned : (n : ℕ) (h : Literal) → n < length N.names → Contains N.names h
      → (n == number N (complement h)) ≡ (number_of_other N n == number N h)
  opposes_turned n h lt m =
      let fh = number_finds h m in
      let fc = number_finds (complement h) (numbered.complements h m) in
      let fo = other_finds n lt in
      same_from_decides (n == number N (complement h)) (number_of_other N n == number N h) (Decides-eqb n (number N (complement h)))
      (Decides-like (number_of_other N n == number N h)
      (λ e. sym (numbered.distinct n lt)
      ∙ ap (number N) (sym (complement_twice (literal_at N n)) ∙ ap complement (sym fo.1 ∙ ap (literal_at N) e ∙ fh.1)))
      (λ e. ap (number N) (ap complement (ap (literal_at N) e ∙ fc.1) ∙ complement_twice h))
      (Decides-eqb (number_of_other N n) (number N h)))

  pub opposers_are : (n : ℕ) → n < length N.names
      → places (of_rule (head_row N)) N.rules (number_of_other N n) ≡ places (of_rule (opposes_row N)) N.rules n
  opposers_are n lt =
      places_same (of_rule (head_row N)) (of_rule (opposes_row N)) (number_of_other N n) n N.rules 0
      (all_slots N numbered (λ o. times (number_of_other N n) (of_rule (head_row N) o) ≡ times n (of_rule (opposes_row N) o)) refl
      (λ r m. ap (λ b. one b + 0) (sym (opposes_turned n r.head lt (head_in r m)))))

  pub opposers_none : (n : ℕ) → length N.names ≤ n → places (of_rule (opposes_row N)) N.rules n ≡ []
  opposers_none n past =
      places_none (of_rule (opposes_row N)) n N.rules 0
      (all_slots N numbered (λ o. times n (of_rule (opposes_row N) o) ≡ 0) refl
      (λ r m.
      let f = number_finds (complement r.head) (numbered.complements r.head (head_in r m)) in
      times_single n (number N (complement r.head)) ∙ ap one (unlike n (number N (complement r.head)) (λ e. absurd (omega (arith, e, past, f.0))))))
    where
      unlike : (a b : ℕ) → (a ≡ b → ⊥) → (a == b) ≡ false
      unlike a b ne = by (a == b) (Decides-eqb a b)
        where
          by : (v : Bool) → Decides v (a ≡ b) → v ≡ false
          by true d = absurd (ne (d.0 refl))
          by false d = refl

  -- what attacks the head of the rule with a number, where there is one
  pub opposed_none : (k : ℕ) → ◌≡◌ {A = List ℕ} [] (row (of_rule (head_row N)) N.rules k) → ◌≡◌ {A = List ℕ} [] (row (of_rule (opposes_row N)) N.rules k)
  opposed_none k e =
      elim (has_rule N k) [
        | inl h ↦ absurd (omega (arith, ap length (e ∙ row_of N (head_row N) k h)))
        | inr none ↦ sym (row_none N (opposes_row N) k none)
      ]

  pub opposed_some : (k h : ℕ) → h ∷ [] ≡ row (of_rule (head_row N)) N.rules k
      → (h < length N.names) × (number_of_other N h ∷ [] ≡ row (of_rule (opposes_row N)) N.rules k)
  opposed_some k h e =
      elim (has_rule N k) [
        | inl there ↦
            let head : Literal = (rule_at N k).head in
            let is : h ≡ number N head = ap (λ (xs : List ℕ). get_or xs 0 0) (e ∙ row_of N (head_row N) k there) in
            let at = number_finds head (head_named k there) in (
              omega (arith, is, at.0),
              ap (λ n. n ∷ []) (ap (λ q. number N (complement q)) (ap (literal_at N) is ∙ at.1)) ∙ sym (row_of N (opposes_row N) k there),
            )
        | inr none ↦ absurd (omega (arith, ap length (e ∙ row_none N (head_row N) k none)))
      ]
