-- The place and the kind of a node, and how often it stands among the nodes of a kind.
use Rattle.std.proofs.Common.{◌≡◌, ◌≢◌, ℕ, ◌+◌, ◌*◌, ◌/◌, ◌%◌, ◌<◌, List, [], ◌∷◌, inl, inr, sym, subst, ap, refl, ◌∙◌, arith}
use Rattle.std.proofs.lemmas.Bool.{cases_eq}
use Rattle.std.proofs.lemmas.Nat.{div-mul-add, mod-mul-add, mul-add-lt}
use Rattle.std.proofs.Math.Nat.{div-add-mod, div-lt_iff_lt-mul}
use Rattle.dl_graph.specs.Counting.{times}
use Rattle.dl_fill.specs.Wires.{through}
use Rattle.dl_fill.proofs.Times.{times_cons_same, times_cons_other}

mul_turns : (a b : ℕ) → a * b ≡ b * a
mul_turns a b = omega arith

pub place_of : (s i k : ℕ) → k < s → (i * s + k) / s ≡ i
place_of s i k lt = div-mul-add i s k lt

pub kind_of : (s i k : ℕ) → k < s → (i * s + k) % s ≡ k
kind_of s i k lt = mod-mul-add i s k lt

pub node_parts : (s y : ℕ) → 0 < s → y / s * s + y % s ≡ y
node_parts s y lt = ap (λ (n : ℕ). n + y % s) (mul_turns (y / s) s) ∙ div-add-mod y s

pub node_inside : (s room i k : ℕ) → k < s → i < room → i * s + k < room * s
node_inside s room i k small lt = subst (λ (n : ℕ). i * s + k < n) (mul_turns s room) (mul-add-lt i s k room lt small)

pub place_inside : (s room y : ℕ) → 0 < s → y < room * s → y / s < room
place_inside s room y pos lt = (div-lt_iff_lt-mul pos).1 lt

pub times_through : (s k i : ℕ) (xs : List ℕ) → k < s → times (i * s + k) (through s k xs) ≡ times i xs
times_through s k i [] lt = refl
times_through s k i (x ∷ xs) lt = elim (cases_eq i x) [
  | inl same ↦
      omega (arith, times_cons_same i x xs same, times_cons_same (i * s + k) (x * s + k) (through s k xs) (ap (λ (n : ℕ). n * s + k) same), times_through s k i xs lt)
  | inr other ↦
      omega (
        arith,
        times_cons_other i x xs other,
        times_cons_other (i * s + k) (x * s + k) (through s k xs)
            (λ same. other (sym (place_of s i k lt) ∙ ap (λ (n : ℕ). n / s) same ∙ place_of s x k lt)),
        times_through s k i xs lt,
      )
]

pub times_through_same : (s k y : ℕ) (xs : List ℕ) → k < s → k ≡ y % s → times y (through s k xs) ≡ times (y / s) xs
times_through_same s k y xs lt e =
    subst (λ (v : ℕ). times v (through s k xs) ≡ times (y / s) xs)
    (ap (λ (n : ℕ). y / s * s + n) e ∙ node_parts s y (omega arith)) (times_through s k (y / s) xs lt)

pub times_through_other : (s k y : ℕ) (xs : List ℕ) → k < s → k ≢ y % s → times y (through s k xs) ≡ 0
times_through_other s k y [] lt n = refl
times_through_other s k y (x ∷ xs) lt n =
    omega (
      arith,
      times_cons_other y (x * s + k) (through s k xs) (λ same. n (sym (kind_of s x k lt) ∙ ap (λ (v : ℕ). v % s) (sym same))),
      times_through_other s k y xs lt n,
    )
