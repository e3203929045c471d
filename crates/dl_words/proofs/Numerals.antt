-- The number that a word is, as a reader of numbers answers it.
use Rattle.std.proofs.Common.{◌≡◌, ◌∙◌, ℕ, ◌^◌, nat_lt, Bool, true, false, ◌&&◌, List, Option, None, Some, decimal, if◌then◌else◌, refl, sym, ap, arith}
use Rattle.std.specs.Str.{bytes_eq}
use Rattle.std.specs.Str.Parse.{digits_value}
use Rattle.std.proofs.lemmas.Bool.{lt-ltb, ltb-true}
use Rattle.std.proofs.lemmas.Fmt.{decimal_is_IsNumeral}
use Rattle.std.proofs.lemmas.Slice.Eq.{bytes_eq-Decides}
use Rattle.dl_read.specs.Numbers.{IsNumber, ReadsNumber}
use Rattle.dl_words.specs.Words.{number_of}

value_of : (word : List ℕ) (n : ℕ) → IsNumber word n → digits_value 10 word ≡ n
value_of word n h = ap (digits_value 10) h.digits ∙ (decimal_is_IsNumeral n (omega (arith, h.short))).1

chosen : (a b : Bool) (n : ℕ) → a ≡ true → b ≡ true → (if a && b then Some n else None) ≡ Some n
chosen true true n x y = refl
chosen true false n x y = absurd (cc)
chosen false b n x y = absurd (cc)

not_chosen : (a b : Bool) (n : ℕ) → (a ≡ true → b ≡ true → ⊥) → (if a && b then Some n else None) ≡ None
not_chosen true true n none = absurd (none refl refl)
not_chosen true false n none = refl
not_chosen false b n none = refl

-- a reader of numbers answers the number that the word is, and nothing where it is none
pub number_read : (word : List ℕ) (r : Option ℕ) → ReadsNumber word r → r ≡ number_of word
number_read word (Some n) (h, only) =
    let e = value_of word n h in
    let same : word ≡ decimal (digits_value 10 word) = h.digits ∙ ap decimal (sym e) in
    sym (chosen (bytes_eq word (decimal (digits_value 10 word))) (nat_lt (digits_value 10 word) (10 ^ 19)) (digits_value 10 word)
    ((bytes_eq-Decides word (decimal (digits_value 10 word))).1 same) (lt-ltb (digits_value 10 word) (10 ^ 19) (omega (arith, e, h.short)))
    ∙ ap (λ (k : ℕ). Some k) e)
number_read word None none =
    sym (not_chosen (bytes_eq word (decimal (digits_value 10 word))) (nat_lt (digits_value 10 word) (10 ^ 19)) (digits_value 10 word)
    (λ same short. none (digits_value 10 word) (record {
      digits = (bytes_eq-Decides word (decimal (digits_value 10 word))).0 same;
      short = ltb-true (digits_value 10 word) (10 ^ 19) short;
    })))
