-- A word is a number exactly where it is short, begins as a number does, and is read as decimal digits.
use Rattle.std.proofs.Common.{◌≡◌, ◌≢◌, ℕ, ◌^◌, ◌<◌, ◌≤◌, ◌==◌, nat_lt, false, ◌&&◌, List, [], ◌∷◌, length, get_or, decimal, IsUtf8, refl, sym, ap, subst, ◌∙◌, arith, inl, inr, le-ltb, lt-ltb, ne_eqb, eq-eqb}
use Rattle.std.specs.Prelude.{Result, Ok, Err}
use Rattle.std.specs.Result.{result_ok}
use Rattle.std.specs.Str.Parse.{AllDigits, digits_value, ParsesUnsigned}
use Rattle.std.proofs.lemmas.Bool.{and_left, and_right, and_from, or_from, or_parts, both_ways, cases_lt}
use Rattle.std.proofs.lemmas.Fmt.{decimal_is_IsNumeral, decimal_digit, first_decimal, decimal-digits_value, decimal_injective, length-decimal-le, IsAscii-decimal}
use Rattle.std.proofs.lemmas.Str.{IsUtf8-from_ascii}
use Rattle.std.proofs.lemmas.Str.Parse.{IsNumeralModel, numerals_by_value, tells_digits, digit_from_value, digits_value_short, parse_plain}
use Rattle.dl_read.specs.Numbers.{begins_otherwise, IsNumber, ReadsNumber}

-- a number begins with `0` only where there is no other digit
zero_alone : (n : ℕ) → n < 2 ^ 64 → get_or (decimal n) 0 0 ≡ 48 → length (decimal n) ≡ 1
zero_alone n small zero_first =
    elim (cases_lt n 10) [
      | inl one ↦ ap length (decimal_digit n one)
      | inr more ↦ absurd (omega (arith, first_decimal n (omega arith) small, zero_first))
    ]

digits_begin : (ds : List ℕ) → AllDigits 10 ds → (get_or ds 0 0 ≡ 48 → length ds ≡ 1) → begins_otherwise ds ≡ false
digits_begin [] d alone = refl
digits_begin (c ∷ cs) d alone =
    let digit = digit_from_value c d.0 in
    or_from (c == 43) (c == 48 && nat_lt 1 (length (c ∷ cs))) (ne_eqb c 43 (λ e. omega (arith, digit.0, e)))
    (elim (cases_lt 1 (length (c ∷ cs))) [
      | inl more ↦ and_left (c == 48) (nat_lt 1 (length (c ∷ cs))) (ne_eqb c 48 (λ e. omega (arith, alone e, more)))
      | inr one ↦ and_right (c == 48) (nat_lt 1 (length (c ∷ cs))) (le-ltb 1 (length (c ∷ cs)) one)
    ])

-- what a word that is a number is like

pub number_short : (word : List ℕ) (m : ℕ) → IsNumber word m → length word ≤ 19
number_short word m h = let n = length-decimal-le 19 m (omega arith) h.short (omega (arith, h.short)) in omega (arith, ap length h.digits, n)

pub number_begins : (word : List ℕ) (m : ℕ) → IsNumber word m → begins_otherwise word ≡ false
number_begins word m h =
    let small : m < 2 ^ 64 = omega (arith, h.short) in
    ap begins_otherwise h.digits ∙ digits_begin (decimal m) (decimal_is_IsNumeral m small).0.1 (zero_alone m small)

pub number_text : (word : List ℕ) (m : ℕ) → IsNumber word m → IsUtf8 word
number_text word m h = subst IsUtf8 (sym h.digits) (IsUtf8-from_ascii (decimal m) (IsAscii-decimal m (omega (arith, h.short))))

-- what a word that begins as a number does is like

no_plus : (word : List ℕ) → begins_otherwise word ≡ false → get_or word 0 0 ≢ 43
no_plus [] b e = omega (arith, e)
no_plus (c ∷ cs) b e = both_ways (c == 43) (or_parts (c == 43) _ b).0 (eq-eqb c 43 e)

no_leading_zero : (word : List ℕ) → begins_otherwise word ≡ false → get_or word 0 0 ≡ 48 → length word ≡ 1
no_leading_zero [] b e = absurd (omega (arith, e))
no_leading_zero (c ∷ cs) b e =
    elim (cases_lt 1 (length (c ∷ cs))) [
      | inl more ↦ absurd (both_ways (c == 48 && nat_lt 1 (length (c ∷ cs))) (or_parts (c == 43) _ b).1 (and_from _ _ (eq-eqb c 48 e) (lt-ltb _ _ more)))
      | inr one ↦ omega (arith, one)
    ]

-- the words that are decimal digits, and the number of each
own : IsNumeralModel (AllDigits 10) (digits_value 10)
own = numerals_by_value (AllDigits 10) tells_digits

pub parsed : {E : Type 0} (word : List ℕ) (r : Result ℕ E) → length word ≤ 19 → begins_otherwise word ≡ false → ParsesUnsigned 64 10 word r → ReadsNumber word (result_ok r)
parsed {E} word (Ok n) len begins h =
    let p = parse_plain own {E = E} 64 word (Ok n) h (no_plus word begins) in
    let text : word ≡ decimal n = sym (ap decimal p.1 ∙ decimal-digits_value own word p.0.0 p.0.1 (no_leading_zero word begins) p.0.2) in
    let small : n < 10 ^ 19 = omega (arith, p.1, digits_value_short own word 19 p.0.0 len) in
    (record { digits = text; short = small }, λ m i. decimal_injective m n (omega (arith, i.short)) (omega (arith, small)) (sym i.digits ∙ text))
parsed {E} word (Err e) len begins h =
    let none = parse_plain own {E = E} 64 word (Err e) h (no_plus word begins) in
    λ m i. (let d = decimal_is_IsNumeral m (omega (arith, i.short)) in
    let fits : digits_value 10 (decimal m) < 2 ^ 64 = omega (arith, d.1, i.short) in
    none (subst (λ (l : List ℕ). AllDigits 10 l × (0 < length l) × (digits_value 10 l < 2 ^ 64)) (sym i.digits) (d.0.1, d.0.0, fits)))
