-- Counting members.
use Rattle.std.proofs.lemmas.List.{take-append-drop, take-take}
use Rattle.std.proofs.Common.{take, drop, get_or, zero, suc, ◌≡◌, ◌≢◌, ℕ, ◌+◌, ◌<◌, ◌≤◌, ◌==◌, eqb, cond, Bool, List, [], ◌∷◌, ◌++◌, length, inl, inr, sym, subst, ap, refl, ◌∙◌, arith}
use Rattle.std.specs.List.{flat_map}
use Rattle.std.proofs.lemmas.Bool.{eq-eqb, ne_eqb, cases_eq}
use Rattle.std.proofs.lemmas.List.Concat.{flat_map-cons}
use Rattle.dl_graph.specs.Counting.{times}
use Rattle.dl_fill.specs.Counting.{overlap}

pub times-append : (y : ℕ) (xs ys : List ℕ) → times y (xs ++ ys) ≡ times y xs + times y ys
times-append y [] ys = omega arith
times-append y (x ∷ xs) ys = omega (arith, times-append y xs ys)

pub eqb_swaps : (a b : ℕ) → eqb a b ≡ eqb b a
eqb_swaps a b = elim (cases_eq a b) [
  | inl e ↦ eq-eqb a b e ∙ sym (eq-eqb b a (sym e))
  | inr n ↦ ne_eqb a b n ∙ sym (ne_eqb b a (λ e. n (sym e)))
]

abbrev one : Bool → ℕ
one b = cond b 1 0

pub one_same : (x y : ℕ) → x ≡ y → one (x == y) ≡ 1
one_same x y e = ap one (eq-eqb x y e)

pub one_other : (x y : ℕ) → x ≢ y → one (x == y) ≡ 0
one_other x y n = ap one (ne_eqb x y n)

pub times_push_same : (y x : ℕ) (xs : List ℕ) → y ≡ x → times y (xs ++ x ∷ []) ≡ times y xs + 1
times_push_same y x xs e = omega (arith, times-append y xs (x ∷ []), one_same y x e)

pub times_push_other : (y x : ℕ) (xs : List ℕ) → y ≢ x → times y (xs ++ x ∷ []) ≡ times y xs
times_push_other y x xs n = omega (arith, times-append y xs (x ∷ []), one_other y x n)

pub times_cons_same : (y x : ℕ) (xs : List ℕ) → y ≡ x → times y (x ∷ xs) ≡ 1 + times y xs
times_cons_same y x xs e = omega (arith, one_same y x e)

pub times_cons_other : (y x : ℕ) (xs : List ℕ) → y ≢ x → times y (x ∷ xs) ≡ times y xs
times_cons_other y x xs n = omega (arith, one_other y x n)

pub overlap-nil_right : (xs : List ℕ) → overlap xs [] ≡ 0
overlap-nil_right [] = refl
overlap-nil_right (x ∷ xs) = omega (arith, overlap-nil_right xs)

pub overlap-cons_right : (xs : List ℕ) (y : ℕ) (ys : List ℕ) → overlap xs (y ∷ ys) ≡ times y xs + overlap xs ys
overlap-cons_right [] y ys = omega arith
overlap-cons_right (x ∷ xs) y ys =
    let e : one (x == y) ≡ one (y == x) = ap one (eqb_swaps x y) in
    omega (arith, overlap-cons_right xs y ys, e)

pub overlap_swaps : (xs ys : List ℕ) → overlap xs ys ≡ overlap ys xs
overlap_swaps xs [] = overlap-nil_right xs
overlap_swaps xs (y ∷ ys) = omega (arith, overlap-cons_right xs y ys, overlap_swaps xs ys)

-- what comes from a list of nodes to y, added up, is how often y's inputs stand in the list
pub times_gathered : (edges inputs : ℕ → List ℕ) → ((x y : ℕ) → times y (edges x) ≡ times x (inputs y)) → (y : ℕ) (xs : List ℕ)
    → times y (flat_map edges xs) ≡ overlap (inputs y) xs
times_gathered edges inputs turned y [] = sym (overlap-nil_right (inputs y))
times_gathered edges inputs turned y (x ∷ xs) =
    rw flat_map-cons
    (omega (arith, times-append y (edges x) (flat_map edges xs), turned x y, times_gathered edges inputs turned y xs, overlap-cons_right (inputs y) x xs))

pub overlap_most : (xs ys : List ℕ) → ((x : ℕ) → times x ys ≤ 1) → overlap xs ys ≤ length xs
overlap_most [] ys once = omega arith
overlap_most (x ∷ xs) ys once = omega (arith, once x, overlap_most xs ys once)

-- each member of the first list stands in the second
pub overlap_all : (xs ys : List ℕ) → ((x : ℕ) → times x ys ≤ 1) → length xs ≤ overlap xs ys → (x : ℕ) → 0 < times x xs → 0 < times x ys
overlap_all [] ys once h x m = absurd (omega arith)
overlap_all (z ∷ zs) ys once h x m = elim (cases_eq x z) [
  | inl e ↦ subst (λ (v : ℕ). 0 < times v ys) (sym e) (omega (arith, once z, overlap_most zs ys once))
  | inr n ↦ overlap_all zs ys once (omega (arith, once z)) x (omega (arith, times_cons_other x z zs n))
]

pub overlap_full : (xs ys : List ℕ) → ((x : ℕ) → 0 < times x xs → 0 < times x ys) → length xs ≤ overlap xs ys
overlap_full [] ys h = omega arith
overlap_full (x ∷ xs) ys h =
    omega (arith, h x (omega (arith, times_cons_same x x xs refl)), overlap_full xs ys (λ z m. h z (omega arith)))

pub overlap_some : (xs ys : List ℕ) → 0 < overlap xs ys → (x : ℕ) × (0 < times x xs) × (0 < times x ys)
overlap_some [] ys h = absurd (omega arith)
overlap_some (z ∷ zs) ys h = elim (cases_eq (times z ys) 0) [
  | inl e ↦ let r = overlap_some zs ys (omega arith) in (r.0, omega (arith, r.1), r.2)
  | inr n ↦ (z, omega (arith, times_cons_same z z zs refl), omega arith)
]

pub overlap_has : (xs ys : List ℕ) (x : ℕ) → 0 < times x xs → 0 < times x ys → 0 < overlap xs ys
overlap_has [] ys x m h = absurd (omega arith)
overlap_has (z ∷ zs) ys x m h = elim (cases_eq x z) [
  | inl e ↦ let k : 0 < times z ys = subst (λ (v : ℕ). 0 < times v ys) e h in omega arith
  | inr n ↦ omega (arith, overlap_has zs ys x (omega (arith, times_cons_other x z zs n)) h)
]

pub times-take : (y n : ℕ) (xs : List ℕ) → times y (take n xs) ≤ times y xs
times-take y n xs = omega (arith, ap (times y) (take-append-drop n xs), times-append y (take n xs) (drop n xs))

pub times-get_or : (xs : List ℕ) (i d : ℕ) → i < length xs → 0 < times (get_or xs i d) xs
times-get_or [] i d h = absurd (omega arith)
times-get_or (x ∷ xs) zero d h = omega (arith, times_cons_same x x xs refl)
times-get_or (x ∷ xs) (suc i) d h = elim (cases_eq (get_or xs i d) x) [
  | inl e ↦ omega (arith, times_cons_same (get_or xs i d) x xs e)
  | inr n ↦ omega (arith, times_cons_other (get_or xs i d) x xs n, times-get_or xs i d (omega arith))
]

-- a shorter front has no member more
pub times-take_more : (y m n : ℕ) (xs : List ℕ) → m ≤ n → times y (take m xs) ≤ times y (take n xs)
times-take_more y m n xs le = omega (arith, ap (times y) (take-take m n xs le), times-take y m (take n xs))
