-- Theories as editions, numbered one after another.
use Rattle.std.proofs.Common.{◌≡◌, ◌∙◌, ℕ, zero, suc, ◌+◌, ◌<◌, List, [], ◌∷◌, ◌++◌, length, get_or, refl, sym, ap, arith}
use Rattle.std.specs.Prelude.{Some, Result, Ok, Err, IfOk, slice_get}
use Rattle.dl_theory.specs.Lists.{TheoryLists}
use Rattle.dl_edition.specs.Editions.{EditionLists}
use Rattle.dl_board.specs.Kept.{numbered}

pub numbered_length : (n : ℕ) (Ts : List TheoryLists) → length (numbered n Ts) ≡ length Ts
numbered_length n [] = refl
numbered_length n (T ∷ more) = ap (λ (k : ℕ). suc k) (numbered_length (n + 1) more)

-- one theory more has the next number
pub numbered_push : (n : ℕ) (Ts : List TheoryLists) (T : TheoryLists) → numbered n (Ts ++ T ∷ []) ≡ numbered n Ts ++ record { number = n + length Ts; theory = T } ∷ []
numbered_push n [] T = ap (λ (k : ℕ). record { number = k; theory = T } ∷ []) (omega arith)
numbered_push n (U ∷ more) T =
    ap (λ (l : List EditionLists). record { number = n; theory = U } ∷ l) (numbered_push (n + 1) more T)
    ∙ ap (λ (k : ℕ). record { number = n; theory = U } ∷ (numbered (n + 1) more ++ record { number = k; theory = T } ∷ [])) (omega arith)

-- what stands at a place has its number, and the theory at that place
pub numbered_at : (n : ℕ) (Ts : List TheoryLists) (i : ℕ) (E : EditionLists) → i < length Ts → E ≡ get_or (numbered n Ts) i E
    → (E.number ≡ n + i) × (slice_get Ts i ≡ Some E.theory)
numbered_at n [] i E lt h = absurd (omega arith)
numbered_at n (T ∷ more) zero E lt h = (ap (λ (x : EditionLists). x.number) h ∙ omega arith, ap (λ (x : EditionLists). Some x.theory) (sym h))
numbered_at n (T ∷ more) (suc i) E lt h = let rest = numbered_at (n + 1) more i E (omega arith) h in (rest.0 ∙ omega arith, rest.1)

-- the same of a list of editions that is numbered from 0
pub edition_at : (Ts : List TheoryLists) (Es : List EditionLists) (i : ℕ) (E : EditionLists) → i < length Ts → Es ≡ numbered 0 Ts → E ≡ get_or Es i E
    → (E.number ≡ i) × (slice_get Ts i ≡ Some E.theory)
edition_at Ts Es i E lt are h =
    let found = numbered_at 0 Ts i E lt (h ∙ ap (λ (l : List EditionLists). get_or l i E) are) in (found.0 ∙ omega arith, found.1)

pub held_number : {M : Type 0} (r : Result EditionLists M) (E : EditionLists) (n : ℕ) → IfOk r (λ copy. copy ≡ E) → E.number ≡ n → IfOk r (λ h. h.number ≡ n)
held_number (Ok x) E n h is = ap (λ (y : EditionLists). y.number) h ∙ is
held_number (Err x) E n h is = h

pub held_theory : {M : Type 0} (r : Result EditionLists M) (Ts : List TheoryLists) (E : EditionLists) (n : ℕ) → IfOk r (λ copy. copy ≡ E)
    → slice_get Ts n ≡ Some E.theory → IfOk r (λ h. slice_get Ts n ≡ Some h.theory)
held_theory (Ok x) Ts E n h is = is ∙ ap (λ (y : EditionLists). Some y.theory) (sym h)
held_theory (Err x) Ts E n h is = h
