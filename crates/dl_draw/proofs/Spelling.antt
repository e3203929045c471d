-- A letter and the digits of a number are a name.
use Rattle.std.proofs.Common.{◌≡◌, ℕ, ◌+◌, ◌%◌, ◌^◌, ◌<◌, ◌≤◌, Bool, true, false, ◌||◌, nat_le, [], ◌∷◌, decimal, refl, arith}
use Rattle.std.specs.List.{list_all}
use Rattle.std.proofs.lemmas.Bool.Decides.{nat_tests}
use Rattle.std.proofs.lemmas.Fmt.{decimal_by_steps}
use Rattle.std.proofs.lemmas.List.Folds.{list_all-append}
use Rattle.dl_lit.specs.Name.{begins_name, continues_name, is_name}

le_true : (a b : ℕ) → a ≤ b → nat_le a b ≡ true
le_true a b h = grind (arith, nat_tests)

or_true : (v w : Bool) → w ≡ true → (v || w) ≡ true
or_true true w h = refl
or_true false w h = h

digit_continues : (n : ℕ) → n < 10 → continues_name (48 + n) ≡ true
digit_continues n h =
    or_true (begins_name (48 + n)) _ (rw (le_true 48 (48 + n) (omega arith), le_true (48 + n) 57 (omega arith)) refl)

one_digit : (n : ℕ) → n < 10 → list_all continues_name ((48 + n) ∷ []) ≡ true
one_digit n h = rw (digit_continues n h) refl

digits_continue : (n : ℕ) → n < 2 ^ 64 → list_all continues_name (decimal n) ≡ true
digits_continue n h =
    decimal_by_steps (λ _ ds. list_all continues_name ds ≡ true) one_digit
    (λ m ds big before. rw (list_all-append continues_name ds ((48 + m % 10) ∷ []), before) (one_digit (m % 10) (omega arith)))
    n h

pub numbered_name : (letter n : ℕ) → begins_name letter ≡ true → n < 2 ^ 64 → is_name (letter ∷ decimal n) ≡ true
numbered_name letter n begins h = rw begins (digits_continue n h)
