-- A list has at most one first flaw, and none where it is fine.
use Rattle.std.proofs.Common.{◌≡◌, ◌≢◌, ℕ, ◌<◌, ◌+◌, Some, List, [], ◌∷◌, ◌++◌, length, take, drop, get_or, inl, inr, ◌⊎◌, refl, sym, subst, ap, ◌∙◌, arith}
use Rattle.std.specs.Prelude.{All, Contains, slice_get, Ok, Err, Result, MatchResult}
use Rattle.std.proofs.lemmas.Bool.{cases_lt}
use Rattle.std.proofs.lemmas.List.{take-take, get_or-take, drop_more, take-append-drop, length-take}
use Rattle.std.proofs.lemmas.Option.{slice_get_within, get_or_from_slice_get, slice_get_read}
use Rattle.dl_lit.specs.declared.literal.Tagged.{Tagged}
use Rattle.dl_base.specs.Paths.{IsDistinct}
use Rattle.dl_theory.specs.Lists.{TheoryLists}
use Rattle.dl_theory.specs.Conditions.{Meets}
use Rattle.dl_theory.specs.Derivations.{IsDerivation, IsGap}
use Rattle.dl_theory.proofs.Steps.{derives_cut}
use Rattle.dl_check.specs.declared.flaw.Flaw.{Flaw}
use Rattle.dl_check.specs.declared.flaw.Flaw.TheVariants.{Empty, Repeat, Step}
use Rattle.dl_check.specs.declared.flaw.CheckStop.{CheckStop}
use Rattle.dl_check.specs.declared.flaw.CheckStop.TheVariants.{Rejected, Memory}
use Rattle.dl_check.specs.Flaws.{IsFlaw, IsDerivationFlaw, IsMet, IsGapFlaw, AnswersDerivation, AnswersGap, IsOnlyFlaw}

-- a member before a place, in the list up to that place
front_get : (list : List Tagged) (a b : ℕ) (x : Tagged) → a < b → slice_get list a ≡ Some x → slice_get (take b list) a ≡ Some x
front_get list a b x lt h =
    let within : a < length list = slice_get_within list a x h in
    slice_get_read (take b list) (length (take b list)) a x (λ i. length (take b list)) (omega (arith, length-take b list))
    (sym (get_or-take b list a x lt ∙ get_or_from_slice_get list a x x h))

-- at one place stands one member
same_member : (list : List Tagged) (at : ℕ) (x y : Tagged) → slice_get list at ≡ Some x → slice_get list at ≡ Some y → x ≡ y
same_member list at x y h k = cc

module _ (Fine : List Tagged → Type 0) (Bad : List Tagged → Tagged → Type 0)
    (good : (xs : List Tagged) (at : ℕ) (x : Tagged) → Fine xs → slice_get xs at ≡ Some x → (¬ Contains (take at xs) x) × (¬ Bad (take at xs) x)) where
  not_wrong : (list : List Tagged) (at : ℕ) (x : Tagged) → Fine list → slice_get list at ≡ Some x → ¬ (Contains (take at list) x ⊎ Bad (take at list) x)
  not_wrong list at x fine h wrong =
      let g = good list at x fine h in
      elim wrong as (λ _. ⊥) [ inl repeat ↦ g.0 repeat | inr bad ↦ g.1 bad ]

  -- what is wrong stands at no earlier place than one before which all is fine
  not_earlier : (list : List Tagged) (a b : ℕ) (x : Tagged) → a < b → slice_get list a ≡ Some x → (Contains (take a list) x ⊎ Bad (take a list) x) → Fine (take b list) → ⊥
  not_earlier list a b x lt h wrong fine =
      not_wrong (take b list) a x fine (front_get list a b x lt h)
      (subst (λ (before : List Tagged). Contains before x ⊎ Bad before x) (sym (take-take a b list (omega arith))) wrong)

  one_place : (list : List Tagged) (a b : ℕ) (x y : Tagged) → slice_get list a ≡ Some x → slice_get list b ≡ Some y → (Contains (take a list) x ⊎ Bad (take a list) x)
      → (Contains (take b list) y ⊎ Bad (take b list) y) → Fine (take a list) → Fine (take b list) → a ≡ b
  one_place list a b x y h k v w f g =
      elim (cases_lt a b) as (λ _. a ≡ b) [
        | inl lt ↦ absurd (not_earlier list a b x lt h v g)
        | inr le ↦ elim (cases_lt b a) as (λ _. a ≡ b) [
          | inl lt ↦ absurd (not_earlier list b a y lt k w f)
          | inr ge ↦ omega arith
        ]
      ]

  none_where_fine : (list : List Tagged) (flaw : Flaw) → Fine list → list ≢ [] → IsFlaw Fine Bad list flaw → ⊥
  none_where_fine list Empty fine some h = some h
  none_where_fine list (Repeat at) fine some h = not_wrong list at h.member fine h.stands (inl h.bad)
  none_where_fine list (Step at) fine some h = not_wrong list at h.member fine h.stands (inr h.bad.1)

  none_get : (list : List Tagged) (at : ℕ) (x : Tagged) → list ≡ [] → slice_get list at ≡ Some x → ⊥
  none_get list at x e h = let n : slice_get [] at ≡ Some x = subst (λ (l : List Tagged). slice_get l at ≡ Some x) e h in cc

  -- a repeat and a step are not at one place
  not_both : (list : List Tagged) (a b : ℕ) (x y : Tagged) → a ≡ b → slice_get list a ≡ Some x → slice_get list b ≡ Some y → Contains (take a list) x → (¬ Contains (take b list) y) → ⊥
  not_both list a b x y e h k repeat new =
      let same : x ≡ y = same_member list a x y h (subst (λ (n : ℕ). slice_get list n ≡ Some y) (sym e) k) in
      new (subst (λ (n : ℕ). Contains (take n list) y) e (subst (λ (z : Tagged). Contains (take a list) z) same repeat))

  one_flaw : (list : List Tagged) (f g : Flaw) → IsFlaw Fine Bad list f → IsFlaw Fine Bad list g → f ≡ g
  one_flaw list Empty Empty h k = refl
  one_flaw list Empty (Repeat b) h k = absurd (none_get list b k.member h k.stands)
  one_flaw list Empty (Step b) h k = absurd (none_get list b k.member h k.stands)
  one_flaw list (Repeat a) Empty h k = absurd (none_get list a h.member k h.stands)
  one_flaw list (Step a) Empty h k = absurd (none_get list a h.member k h.stands)
  one_flaw list (Repeat a) (Repeat b) h k = ap Repeat (one_place list a b h.member k.member h.stands k.stands (inl h.bad) (inl k.bad) h.fine k.fine)
  one_flaw list (Step a) (Step b) h k = ap Step (one_place list a b h.member k.member h.stands k.stands (inr h.bad.1) (inr k.bad.1) h.fine k.fine)
  one_flaw list (Repeat a) (Step b) h k =
      absurd (not_both list a b h.member k.member (one_place list a b h.member k.member h.stands k.stands (inl h.bad) (inr k.bad.1) h.fine k.fine) h.stands k.stands h.bad k.bad.0)
  one_flaw list (Step a) (Repeat b) h k =
      absurd (not_both list b a k.member h.member (one_place list b a k.member h.member k.stands h.stands (inl k.bad) (inr h.bad.1) k.fine h.fine) k.stands h.stands k.bad h.bad.0)

-- each place of a derivation
derivation_at : (T : TheoryLists) (xs : List Tagged) (at : ℕ) (x : Tagged) → IsDerivation T xs → slice_get xs at ≡ Some x
    → (¬ Contains (take at xs) x) × ¬ (¬ Meets T (Contains (take at xs)) x)
derivation_at T xs at x h s =
    let within : at < length xs = slice_get_within xs at x s in
    let split : xs ≡ take at xs ++ x ∷ drop (at + 1) xs =
    sym (take-append-drop at xs) ∙ ap (λ (l : List Tagged). take at xs ++ l) (drop_more xs at x within)
    ∙ ap (λ (y : Tagged). take at xs ++ y ∷ drop (at + 1) xs) (get_or_from_slice_get xs at x x s) in
    let parts = derives_cut T [] (take at xs) (x ∷ drop (at + 1) xs) (subst (λ (l : List Tagged). IsDerivation T l) split h) in
    (parts.1.0, λ fails. fails parts.1.1)

-- each place of a list without repeats of which no member meets its condition
gap_at : (T : TheoryLists) (list xs : List Tagged) (at : ℕ) (x : Tagged) → IsDistinct xs × All (λ y. ¬ IsMet T list y) xs → slice_get xs at ≡ Some x
    → (¬ Contains (take at xs) x) × (¬ IsMet T list x)
gap_at T list xs at x h s =
    let within : at < length xs = slice_get_within xs at x s in
    let here : get_or xs at x ≡ x = get_or_from_slice_get xs at x x s in (
      λ m. (let before : m.0 < at = omega (arith, m.1, length-take at xs) in
          h.0 m.0 at x before within (sym (get_or-take at xs m.0 x before) ∙ m.2 ∙ sym here)),
      subst (λ (y : Tagged). ¬ IsMet T list y) here (h.1 at x within),
    )

pub derivation_accepted : (T : TheoryLists) (list : List Tagged) (r : Result (Unit {0}) CheckStop) → AnswersDerivation T list r → IsDerivation T list → list ≢ []
    → MatchResult r (λ _. Unit {0}) (λ stop. stop ≡ Memory)
derivation_accepted T list (Ok u) h d some = tt
derivation_accepted T list (Err (Rejected flaw)) h d some =
    absurd (none_where_fine (IsDerivation T) (λ before x. ¬ Meets T (Contains before) x) (derivation_at T) list flaw d some h)
derivation_accepted T list (Err Memory) h d some = refl

pub derivation_rejected : (T : TheoryLists) (list : List Tagged) (r : Result (Unit {0}) CheckStop) (flaw : Flaw) → AnswersDerivation T list r → IsDerivationFlaw T list flaw
    → IsOnlyFlaw flaw r
derivation_rejected T list (Ok u) flaw h k = none_where_fine (IsDerivation T) (λ before x. ¬ Meets T (Contains before) x) (derivation_at T) list flaw h.0 h.1 k
derivation_rejected T list (Err (Rejected other)) flaw h k =
    inl (ap Rejected (one_flaw (IsDerivation T) (λ before x. ¬ Meets T (Contains before) x) (derivation_at T) list other flaw h k))
derivation_rejected T list (Err Memory) flaw h k = inr refl

pub gap_accepted : (T : TheoryLists) (list : List Tagged) (r : Result (Unit {0}) CheckStop) → AnswersGap T list r → IsGap T list
    → MatchResult r (λ _. Unit {0}) (λ stop. stop ≡ Memory)
gap_accepted T list (Ok u) h g = tt
gap_accepted T list (Err (Rejected flaw)) h g =
    absurd (none_where_fine (λ before. IsDistinct before × All (λ x. ¬ IsMet T list x) before) (λ _ x. IsMet T list x) (gap_at T list) list flaw (g.distinct, g.unmet) g.some h)
gap_accepted T list (Err Memory) h g = refl

pub gap_rejected : (T : TheoryLists) (list : List Tagged) (r : Result (Unit {0}) CheckStop) (flaw : Flaw) → AnswersGap T list r → IsGapFlaw T list flaw
    → IsOnlyFlaw flaw r
gap_rejected T list (Ok u) flaw h k =
    none_where_fine (λ before. IsDistinct before × All (λ x. ¬ IsMet T list x) before) (λ _ x. IsMet T list x) (gap_at T list) list flaw (h.distinct, h.unmet) h.some k
gap_rejected T list (Err (Rejected other)) flaw h k =
    inl (ap Rejected (one_flaw (λ before. IsDistinct before × All (λ x. ¬ IsMet T list x) before) (λ _ x. IsMet T list x) (gap_at T list) list other flaw h k))
gap_rejected T list (Err Memory) flaw h k = inr refl
