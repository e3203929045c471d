-- Names that end in numbers.
use Rattle.std.proofs.Common.{◌≡◌, ◌+◌, ◌-◌, ◌*◌, ◌^◌, ◌<◌, ◌≤◌, ◌⊎◌, ℕ, zero, suc, List, [], ◌∷◌, ◌++◌, Some, None, length, drop, take, set, refl, sym, ap, subst, ◌∙◌, arith, inl, inr}
use Rattle.std.specs.Prelude.{slice_get}
use Rattle.std.proofs.Math.Nat.{pow-suc, mul-le-mul_left, pow-le-pow_right}
use Rattle.std.proofs.lemmas.Bool.{cases_lt}
use Rattle.std.proofs.lemmas.List.{length-drop, take-append-drop}
use Rattle.dl_names.specs.declared.stems.Stem.{Stem}
use Rattle.dl_names.specs.declared.stems.Stems.{Stems}
use Rattle.dl_names.specs.Stems.{AreDigits, decimal, IsNoted, Knows}

-- ---- digits and what they stand for

-- a leading number times a power, and a rest below the power
leading_below : (x y p r s : ℕ) → r < p → x < y → x * p + r < y * p + s
leading_below x y p r s low lt = let more = mul-le-mul_left p lt in omega (arith, low, more)

same_leading : (x y p r s : ℕ) → r < p → s < p → x * p + r ≡ y * p + s → x ≡ y
same_leading x y p r s hr hs e =
    elim (cases_lt x y) [
      | inl lt ↦ absurd (omega (arith, e, leading_below x y p r s hr lt))
      | inr ge ↦ elim (cases_lt y x) [
        | inl lt ↦ absurd (omega (arith, e, leading_below y x p s r hs lt))
        | inr le ↦ omega (arith, ge, le)
      ]
    ]

-- so many digits stand for a number below the power of ten
pub decimal_below : (ds : List ℕ) → AreDigits ds → decimal ds < 10 ^ length ds
decimal_below [] h = omega arith
decimal_below (d ∷ ds) h =
    let rest = decimal_below ds h.2 in
    let lead : d - 48 ≤ 9 = omega (arith, h.0, h.1) in
    let more = mul-le-mul_left (10 ^ length ds) lead in
    omega (arith, rest, more, pow-suc 10 (length ds))

-- as many digits that stand for the same number are the same
pub same_digits : (a b : List ℕ) → AreDigits a → AreDigits b → length a ≡ length b → decimal a ≡ decimal b → a ≡ b
same_digits [] [] ha hb long e = refl
same_digits [] (d ∷ ds) ha hb long e = absurd (omega (arith, long))
same_digits (d ∷ ds) [] ha hb long e = absurd (omega (arith, long))
same_digits (d ∷ ds) (f ∷ fs) ha hb long e =
    let longs : length ds ≡ length fs = omega (arith, long) in
    let below = decimal_below ds ha.2 in
    let others : decimal fs < 10 ^ length ds = subst (λ (n : ℕ). decimal fs < 10 ^ n) (sym longs) (decimal_below fs hb.2) in
    let both : (d - 48) * 10 ^ length ds + decimal ds ≡ (f - 48) * 10 ^ length ds + decimal fs =
    e ∙ ap (λ n. (f - 48) * 10 ^ n + decimal fs) (sym longs) in
    let leads = same_leading (d - 48) (f - 48) (10 ^ length ds) (decimal ds) (decimal fs) below others both in
    let first : d ≡ f = omega (arith, leads, ha.0, hb.0) in
    let rests : decimal ds ≡ decimal fs = omega (arith, both, ap (λ x. x * 10 ^ length ds) leads) in
    λ i. first i ∷ same_digits ds fs ha.2 hb.2 longs rests i

-- one digit more before them stands for a number that fits
pub digit_fits : (ds : List ℕ) (value power count d : ℕ) → AreDigits ds → value ≡ decimal ds → length ds ≡ count → power ≡ 10 ^ count → count < 7
    → d ≤ 9 → value + d * power < 10000000
digit_fits ds value power count d are is long ten few low =
    let rest : value < power = subst (λ (p : ℕ). value < p) (ap (λ n. 10 ^ n) long ∙ sym ten) (subst (λ (v : ℕ). v < 10 ^ length ds) (sym is) (decimal_below ds are)) in
    let least : 0 < 10 = omega arith in
    let most : count ≤ 6 = omega (arith, few) in
    let small : power ≤ 1000000 = subst (λ (p : ℕ). p ≤ 1000000) (sym ten) (pow-le-pow_right least most) in
    let more = mul-le-mul_left power low in
    omega (arith, rest, small, more)

-- ---- what a stem knows

-- a stem knows a name that is cut at its prefix, where a number stands at the value of the digits
pub noted_at : (s : Stem) (name : List ℕ) (prefix digits value number : ℕ) → s.prefix.items ≡ take prefix name → s.digits ≡ digits
    → prefix + digits ≡ length name → AreDigits (drop prefix name) → value ≡ decimal (drop prefix name)
    → slice_get s.numbers.items value ≡ Some (suc number) → IsNoted s name number
noted_at s name prefix digits value number front count whole are is there = record {
  end = drop prefix name;
  whole = sym (take-append-drop prefix name) ∙ ap (λ (f : List ℕ). f ++ drop prefix name) (sym front);
  long = omega (arith, length-drop prefix name, count, whole);
  are = are;
  there = ap (slice_get s.numbers.items) (sym is) ∙ there;
}

-- it knows no more after a number is put in than before, but for the name of which it is
pub put_noted : (s t : Stem) (name : List ℕ) (prefix digits value number : ℕ) → t.prefix.items ≡ s.prefix.items → t.digits ≡ s.digits
    → ((v n : ℕ) → slice_get t.numbers.items v ≡ Some (suc n) → ((v ≡ value) × (n ≡ number)) ⊎ (slice_get s.numbers.items v ≡ Some (suc n)))
    → s.prefix.items ≡ take prefix name → s.digits ≡ digits → prefix + digits ≡ length name → AreDigits (drop prefix name)
    → value ≡ decimal (drop prefix name) → (a : List ℕ) (n : ℕ) → IsNoted t a n → ((a ≡ name) × (n ≡ number)) ⊎ IsNoted s a n
put_noted s t name prefix digits value number fronts counts numbers front count whole are is a n noted =
    elim (numbers (decimal noted.end) n noted.there) [
      | inl here ↦
          let long : length noted.end ≡ length (drop prefix name) = omega (arith, noted.long, length-drop prefix name, counts, count, whole) in
          let same = same_digits noted.end (drop prefix name) noted.are are long (here.0 ∙ is) in
          inl (noted.whole ∙ (λ i. (fronts ∙ front) i ++ same i) ∙ take-append-drop prefix name, here.1)
      | inr there ↦ inr (record {
        end = noted.end;
        whole = noted.whole ∙ ap (λ (f : List ℕ). f ++ noted.end) fronts;
        long = noted.long ∙ counts;
        are = noted.are;
        there = there;
      })
    ]

-- a stem without numbers knows nothing
pub none_noted : (s : Stem) → s.numbers.items ≡ [] → (a : List ℕ) (n : ℕ) → ¬ IsNoted s a n
none_noted s empty a n noted = let no : None ≡ Some (suc n) = ap (λ (xs : List ℕ). slice_get xs (decimal noted.end)) (sym empty) ∙ noted.there in cc

-- ---- what stems know

pushed_get : {A : Type 0} (xs : List A) (x y : A) (k : ℕ) → slice_get (xs ++ x ∷ []) k ≡ Some y → (x ≡ y) ⊎ (slice_get xs k ≡ Some y)
pushed_get [] x y zero e = inl (cc)
pushed_get [] x y (suc k) e = cc
pushed_get (z ∷ xs) x y zero e = inr e
pushed_get (z ∷ xs) x y (suc k) e = pushed_get xs x y k e

set_get : {A : Type 0} (xs : List A) (x y : A) (at k : ℕ) → slice_get (set xs at x) k ≡ Some y → (x ≡ y) ⊎ (slice_get xs k ≡ Some y)
set_get [] x y at k e = inr e
set_get (z ∷ xs) x y zero zero e = inl (cc)
set_get (z ∷ xs) x y zero (suc k) e = inr e
set_get (z ∷ xs) x y (suc at) zero e = inr e
set_get (z ∷ xs) x y (suc at) (suc k) e = set_get xs x y at k e

pub knows_same : (old new : Stems) → new.stems.items ≡ old.stems.items → (a : List ℕ) (n : ℕ) → Knows new a n → Knows old a n
knows_same old new is a n knows = record {
  place = knows.place;
  stem = knows.stem;
  kept = ap (λ (xs : List Stem). slice_get xs knows.place) (sym is) ∙ knows.kept;
  noted = knows.noted;
}

-- stems know nothing more by one that knows nothing
pub knows_pushed : (old new : Stems) (s : Stem) → new.stems.items ≡ old.stems.items ++ s ∷ [] → s.numbers.items ≡ []
    → (a : List ℕ) (n : ℕ) → Knows new a n → Knows old a n
knows_pushed old new s is empty a n knows =
    elim (pushed_get old.stems.items s knows.stem knows.place (ap (λ (xs : List Stem). slice_get xs knows.place) (sym is) ∙ knows.kept)) [
      | inl same ↦ absurd (none_noted s empty a n (subst (λ (x : Stem). IsNoted x a n) (sym same) knows.noted))
      | inr there ↦ record { place = knows.place; stem = knows.stem; kept = there; noted = knows.noted }
    ]

-- and what one knows more they know
pub knows_set : (old new : Stems) (at : ℕ) (s t : Stem) (name : List ℕ) (number : ℕ) → new.stems.items ≡ set old.stems.items at t
    → slice_get old.stems.items at ≡ Some s
    → ((a : List ℕ) (n : ℕ) → IsNoted t a n → ((a ≡ name) × (n ≡ number)) ⊎ IsNoted s a n)
    → (a : List ℕ) (n : ℕ) → Knows new a n → ((a ≡ name) × (n ≡ number)) ⊎ Knows old a n
knows_set old new at s t name number is there noted a n knows =
    elim (set_get old.stems.items t knows.stem at knows.place (ap (λ (xs : List Stem). slice_get xs knows.place) (sym is) ∙ knows.kept)) [
      | inl same ↦ elim (noted a n (subst (λ (x : Stem). IsNoted x a n) (sym same) knows.noted)) [
        | inl here ↦ inl here
        | inr was ↦ inr (record { place = at; stem = s; kept = there; noted = was })
      ]
      | inr kept ↦ inr (record { place = knows.place; stem = knows.stem; kept = kept; noted = knows.noted })
    ]
