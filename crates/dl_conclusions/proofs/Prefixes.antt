-- The prefix of a name orders names as their bytes do.
use Rattle.std.proofs.Common.{◌≡◌, ◌∙◌, ℕ, ◌<◌, ◌≤◌, ◌&&◌, ◌||◌, leb, eqb, zero, suc, List, [], ◌∷◌, true, get_or, inl, inr, refl, sym, ap, arith}
use Rattle.std.specs.Prelude.{IsTrue}
use Rattle.std.specs.List.{list_all}
use Rattle.std.specs.Ordering.{nat_cmp, ordering_then}
use Rattle.std.specs.declared.cmp.Ordering.TheVariants.{Less}
use Rattle.std.proofs.lemmas.Bool.{cases_lt, cases_order, and_parts, or_cases, leb-true, eqb-true}
use Rattle.std.proofs.lemmas.Cmp.{tied_itself, nat_cmp_total}
use Rattle.dl_lit.specs.Name.{begins_name, continues_name, is_name}
use Rattle.dl_lit.specs.Order.{bytes_cmp}
use Rattle.dl_conclusions.specs.Placing.{prefix}

-- each byte, and each zero after them, is below 256
abbrev pub AreBytes : List ℕ → Type 0
AreBytes bytes = (i : ℕ) → get_or bytes i 0 < 256

-- the first different byte decides
module _ where
  pub less : (x y : ℕ) → x < y → nat_cmp x y ≡ Less
  less x y h = grind (arith, h)

  ahead : (n : ℕ) (a b : List ℕ) → ((i : ℕ) → i < n → get_or a i 0 ≡ get_or b i 0) → get_or a n 0 < get_or b n 0 → bytes_cmp a b ≡ Less
  ahead n [] [] same h = absurd (omega (arith, h))
  ahead n [] (y ∷ b) same h = refl
  ahead zero (x ∷ a) [] same h = absurd (omega (arith, h))
  ahead (suc n) (x ∷ a) [] same h = absurd (omega (arith, h))
  ahead zero (x ∷ a) (y ∷ b) same h = ap (λ o. ordering_then o (bytes_cmp a b)) (less x y h)
  ahead (suc n) (x ∷ a) (y ∷ b) same h =
      ap (λ z. ordering_then (nat_cmp x z) (bytes_cmp a b)) (sym (same 0 (omega arith)))
      ∙ ap (λ o. ordering_then o (bytes_cmp a b)) (tied_itself nat_cmp_total x)
      ∙ ahead n a b (λ i lt. same (suc i) (omega (arith, lt))) h

module _ (a b : List ℕ) (p : AreBytes a) (q : AreBytes b) where
  -- one prefix has one row of bytes
  same_bytes : (n : ℕ) → prefix n a ≡ prefix n b → (i : ℕ) → i < n → get_or a i 0 ≡ get_or b i 0
  same_bytes zero e i lt = absurd (omega (arith, lt))
  same_bytes (suc n) e i lt = elim (cases_lt i n) [
    | inl below ↦ same_bytes n (omega (arith, e, p n, q n)) i below
    | inr above ↦
        let is : i ≡ n = omega (arith, lt, above) in
        let last : get_or a n 0 ≡ get_or b n 0 = omega (arith, e, p n, q n) in
        ap (λ k. get_or a k 0) is ∙ last ∙ ap (λ k. get_or b k 0) (sym is)
  ]

  pub less_by_prefix : (n : ℕ) → prefix n a < prefix n b → bytes_cmp a b ≡ Less
  less_by_prefix zero h = absurd (omega (arith, h))
  less_by_prefix (suc n) h = elim (cases_order (prefix n a) (prefix n b)) [
    | inl e ↦ ahead n a b (same_bytes n e) (omega (arith, h, e))
    | inr (inl below) ↦ less_by_prefix n below
    | inr (inr above) ↦ absurd (omega (arith, h, above, p n, q n))
  ]

-- the bytes of a name are below 256

within : (low high b : ℕ) → (leb low b && leb b high) ≡ true → b ≤ high
within low high b h = leb-true b high (and_parts (leb low b) (leb b high) h).1

begins_small : (b : ℕ) → begins_name b ≡ true → b < 256
begins_small b h = elim (or_cases ((leb 65 b && leb b 90) || (leb 97 b && leb b 122)) (eqb b 95) h) [
  | inl letter ↦ elim (or_cases (leb 65 b && leb b 90) (leb 97 b && leb b 122) letter) [
    | inl upper ↦ omega (arith, within 65 90 b upper)
    | inr lower ↦ omega (arith, within 97 122 b lower)
  ]
  | inr line ↦ omega (arith, eqb-true b 95 line)
]

continues_small : (b : ℕ) → continues_name b ≡ true → b < 256
continues_small b h = elim (or_cases (begins_name b) (leb 48 b && leb b 57) h) [
  | inl begins ↦ begins_small b begins
  | inr digit ↦ omega (arith, within 48 57 b digit)
]

word_bytes : (bytes : List ℕ) → list_all continues_name bytes ≡ true → (i : ℕ) → get_or bytes i 0 < 256
word_bytes [] h i = omega arith
word_bytes (b ∷ bytes) h zero = continues_small b (and_parts (continues_name b) (list_all continues_name bytes) h).0
word_bytes (b ∷ bytes) h (suc i) = word_bytes bytes (and_parts (continues_name b) (list_all continues_name bytes) h).1 i

pub name_bytes : (name : List ℕ) → IsTrue (is_name name) → (i : ℕ) → get_or name i 0 < 256
name_bytes [] h i = cc
name_bytes (b ∷ bytes) h zero = begins_small b (and_parts (begins_name b) (list_all continues_name bytes) h).0
name_bytes (b ∷ bytes) h (suc i) = word_bytes bytes (and_parts (begins_name b) (list_all continues_name bytes) h).1 i
