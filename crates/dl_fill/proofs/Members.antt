-- What passes through one wire or two; rules by number.
use Rattle.std.proofs.Common.{◌≡◌, ℕ, ◌+◌, ◌*◌, ◌/◌, ◌%◌, ◌<◌, List, [], ◌++◌, get_or, inl, inr, ◌⊎◌, sym, subst, ap, ◌∙◌, arith}
use Rattle.std.specs.Prelude.{All, Any}
use Rattle.std.proofs.lemmas.Bool.{cases_eq}
use Rattle.std.proofs.lemmas.List.Elements.{All-contains}
use Rattle.std.proofs.lemmas.List.{get_or_default}
use Rattle.dl_theory.specs.declared.rule.Rule.{Rule}
use Rattle.dl_graph.specs.Counting.{times}
use Rattle.dl_fill.proofs.Times.{times-append}
use Rattle.dl_graph.specs.Numbers.{NetLists, IsNumbered, rule_at}
use Rattle.dl_graph.proofs.Slots.{rule_in, number_of_rule}
use Rattle.dl_fill.proofs.Links.{IsListing}
use Rattle.dl_fill.specs.Wires.{through}
use Rattle.dl_fill.proofs.Nodes.{node_parts, times_through, times_through_same, times_through_other}

pub through_has : (s k i : ℕ) (xs : List ℕ) → k < s → 0 < times i xs → 0 < times (i * s + k) (through s k xs)
through_has s k i xs lt m = subst (λ (n : ℕ). 0 < n) (sym (times_through s k i xs lt)) m

pub through_is : (s k x : ℕ) (xs : List ℕ) → k < s → 0 < times x (through s k xs) → (i : ℕ) × (0 < times i xs) × (i * s + k ≡ x)
through_is s k x xs lt m = elim (cases_eq k (x % s)) [
  | inl e ↦ (
    x / s,
    subst (λ (n : ℕ). 0 < n) (times_through_same s k x xs lt e) m,
    ap (λ (n : ℕ). x / s * s + n) e ∙ node_parts s x (omega arith),
  )
  | inr n ↦ absurd (omega (arith, m, times_through_other s k x xs lt n))
]

module _ (P : ℕ → Type 0) (s k l : ℕ) (small : k < s) (small' : l < s) (xs ys : List ℕ) where
  pub every_one : ((x : ℕ) → 0 < times x (through s k xs ++ []) → P x) → (i : ℕ) → 0 < times i xs → P (i * s + k)
  every_one h i m = h (i * s + k) (omega (arith, times-append (i * s + k) (through s k xs) [], through_has s k i xs small m))

  pub every_one_back : ((i : ℕ) → 0 < times i xs → P (i * s + k)) → (x : ℕ) → 0 < times x (through s k xs ++ []) → P x
  every_one_back h x m =
      let r = through_is s k x xs small (omega (arith, times-append x (through s k xs) [])) in
      subst P r.2 (h r.0 r.1)

  pub either_one : (x : ℕ) × (0 < times x (through s k xs ++ [])) × P x → (i : ℕ) × (0 < times i xs) × P (i * s + k)
  either_one h =
      let r = through_is s k h.0 xs small (omega (arith, h.1, times-append h.0 (through s k xs) [])) in
      (r.0, r.1, subst P (sym r.2) h.2)

  pub either_one_back : (i : ℕ) → 0 < times i xs → P (i * s + k) → (x : ℕ) × (0 < times x (through s k xs ++ [])) × P x
  either_one_back i m p = (i * s + k, omega (arith, times-append (i * s + k) (through s k xs) [], through_has s k i xs small m), p)

  abbrev both : List ℕ
  both = through s k xs ++ (through s l ys ++ [])

  split : (x : ℕ) → times x both ≡ times x (through s k xs) + times x (through s l ys)
  split x = omega (arith, times-append x (through s k xs) (through s l ys ++ []), times-append x (through s l ys) [])

  pub every_first : ((x : ℕ) → 0 < times x both → P x) → (i : ℕ) → 0 < times i xs → P (i * s + k)
  every_first h i m = h (i * s + k) (omega (arith, split (i * s + k), through_has s k i xs small m))

  pub every_second : ((x : ℕ) → 0 < times x both → P x) → (i : ℕ) → 0 < times i ys → P (i * s + l)
  every_second h i m = h (i * s + l) (omega (arith, split (i * s + l), through_has s l i ys small' m))

  pub every_both : ((i : ℕ) → 0 < times i xs → P (i * s + k)) → ((i : ℕ) → 0 < times i ys → P (i * s + l)) → (x : ℕ) → 0 < times x both → P x
  every_both f g x m = elim (cases_eq (times x (through s k xs)) 0) [
    | inl none ↦
        let r = through_is s l x ys small' (omega (arith, split x)) in
        subst P r.2 (g r.0 r.1)
    | inr some ↦
        let r = through_is s k x xs small (omega arith) in
        subst P r.2 (f r.0 r.1)
  ]

  pub either_of : (x : ℕ) × (0 < times x both) × P x → ((i : ℕ) × (0 < times i xs) × P (i * s + k)) ⊎ ((i : ℕ) × (0 < times i ys) × P (i * s + l))
  either_of h = elim (cases_eq (times h.0 (through s k xs)) 0) [
    | inl none ↦
        let r = through_is s l h.0 ys small' (omega (arith, h.1, split h.0)) in
        inr (r.0, r.1, subst P (sym r.2) h.2)
    | inr some ↦
        let r = through_is s k h.0 xs small (omega arith) in
        inl (r.0, r.1, subst P (sym r.2) h.2)
  ]

  pub either_first : (i : ℕ) → 0 < times i xs → P (i * s + k) → (x : ℕ) × (0 < times x both) × P x
  either_first i m p = (i * s + k, omega (arith, split (i * s + k), through_has s k i xs small m), p)

  pub either_second : (i : ℕ) → 0 < times i ys → P (i * s + l) → (x : ℕ) × (0 < times x both) × P x
  either_second i m p = (i * s + l, omega (arith, split (i * s + l), through_has s l i ys small' m), p)

module _ (N : NetLists) (numbered : IsNumbered N) (R : Rule → Type 0) (xs : List ℕ) (listing : IsListing N R xs) (Q : Rule → Type 0) where
  pub any_from : (r : ℕ) → 0 < times r xs → Q (rule_at N r) → Any (λ r. R r × Q r) N.theory.rules
  any_from r m q =
      let s = listing.sound r m in
      let c = rule_in N numbered r s.0 in
      (c.0, rule_at N r, c.1, c.2, (s.1, q))

  pub any_to : Any (λ r. R r × Q r) N.theory.rules → (r : ℕ) × (0 < times r xs) × Q (rule_at N r)
  any_to h =
      let at = number_of_rule N numbered h.1 (h.0, h.2, h.3) in
      (at.0, listing.complete at.0 at.1 (subst R (sym at.2) h.4.0), subst Q (sym at.2) h.4.1)

  pub all_from : ((r : ℕ) → 0 < times r xs → Q (rule_at N r)) → All (λ r. R r → Q r) N.theory.rules
  all_from h k d lt holds =
      let at = number_of_rule N numbered (get_or N.theory.rules k d) (k, lt, get_or_default N.theory.rules k (get_or N.theory.rules k d) d lt) in
      subst Q at.2 (h at.0 (listing.complete at.0 at.1 (subst R (sym at.2) holds)))

  pub all_to : All (λ r. R r → Q r) N.theory.rules → (r : ℕ) → 0 < times r xs → Q (rule_at N r)
  all_to h r m =
      let s = listing.sound r m in
      All-contains (λ r. R r → Q r) N.theory.rules (rule_at N r) h (rule_in N numbered r s.0) s.1
