-- Members, each where it first stands.
use Rattle.std.proofs.Common.{◌≡◌, ◌≢◌, ℕ, ◌<◌, ◌≤◌, ◌==◌, Bool, true, false, cond, List, [], ◌∷◌, inl, inr, sym, ap, refl, ◌∙◌, arith, true≢false}
use Rattle.std.specs.Prelude.{not, filter}
use Rattle.std.proofs.lemmas.Bool.{cases_eq, ne_eqb}
use Rattle.dl_graph.specs.Counting.{times, each_once}
use Rattle.dl_fill.proofs.Times.{times_cons_same, times_cons_other}

picked_le : (c : Bool) (b x : ℕ) (fs xs : List ℕ) → times b fs ≤ times b xs → times b (cond c (x ∷ fs) fs) ≤ times b (x ∷ xs)
picked_le true b x fs xs h = omega (arith, h)
picked_le false b x fs xs h = omega (arith, h)

pub times-filter_le : (p : ℕ → Bool) (b : ℕ) (xs : List ℕ) → times b (filter p xs) ≤ times b xs
times-filter_le p b [] = omega arith
times-filter_le p b (x ∷ xs) = picked_le (p x) b x (filter p xs) xs (times-filter_le p b xs)

picked_kept : (c : Bool) (b x : ℕ) (fs xs : List ℕ) → (c ≡ false → b ≢ x) → times b fs ≡ times b xs → times b (cond c (x ∷ fs) fs) ≡ times b (x ∷ xs)
picked_kept true b x fs xs n h = omega (arith, h)
picked_kept false b x fs xs n h = omega (arith, h, times_cons_other b x xs (n refl))

pub times-filter_kept : (p : ℕ → Bool) (b : ℕ) (xs : List ℕ) → p b ≡ true → times b (filter p xs) ≡ times b xs
times-filter_kept p b [] e = refl
times-filter_kept p b (x ∷ xs) e =
    picked_kept (p x) b x (filter p xs) xs (λ f same. true≢false (sym e ∙ ap p same ∙ f)) (times-filter_kept p b xs e)

pub once_sound : (b : ℕ) (xs : List ℕ) → 0 < times b (each_once xs) → 0 < times b xs
once_sound b [] h = h
once_sound b (x ∷ xs) h = elim (cases_eq b x) [
  | inl same ↦ omega (arith, times_cons_same b x xs same)
  | inr other ↦
      let rest : 0 < times b (each_once xs) =
      omega (arith, h, times_cons_other b x (filter (λ y. not (y == x)) (each_once xs)) other, times-filter_le (λ y. not (y == x)) b (each_once xs)) in
      omega (arith, times_cons_other b x xs other, once_sound b xs rest)
]

pub once_complete : (b : ℕ) (xs : List ℕ) → 0 < times b xs → 0 < times b (each_once xs)
once_complete b [] h = h
once_complete b (x ∷ xs) h = elim (cases_eq b x) [
  | inl same ↦ omega (arith, times_cons_same b x (filter (λ y. not (y == x)) (each_once xs)) same)
  | inr other ↦
      let rest : 0 < times b (each_once xs) = once_complete b xs (omega (arith, h, times_cons_other b x xs other)) in
      let kept : times b (filter (λ y. not (y == x)) (each_once xs)) ≡ times b (each_once xs) =
      times-filter_kept (λ y. not (y == x)) b (each_once xs) (ap not (ne_eqb b x other)) in
      omega (arith, rest, kept, times_cons_other b x (filter (λ y. not (y == x)) (each_once xs)) other)
]
