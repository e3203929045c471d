-- Words are told apart: a name and a number end where no byte of theirs comes.
use Rattle.std.proofs.Common.{◌≡◌, ℕ, ◌^◌, ◌<◌, ◌≤◌, Bool, true, false, not, ◌&&◌, ◌||◌, ◌==◌, nat_le, List, [], ◌∷◌, ◌++◌, length, IsTrue, decimal, refl, sym, subst, ◌∙◌, append_assoc, arith, le-leb}
use Rattle.std.specs.List.{list_all}
use Rattle.std.specs.Str.Parse.{AllDigits}
use Rattle.std.proofs.lemmas.Bool.Decides.{Decides-eqb}
use Rattle.std.proofs.lemmas.Fmt.{decimal_is_IsNumeral, decimal_injective}
use Rattle.std.proofs.lemmas.Str.Parse.{digit_from_value}
use Rattle.dl_lit.specs.Name.{begins_name, continues_name, is_name}

pub clash : {P : Type 0} (v : Bool) → v ≡ true → v ≡ false → P
clash true h k = cc
clash false h k = cc

pub both_hold : (v w : Bool) → (v && w) ≡ true → (v ≡ true) × (w ≡ true)
both_hold true w h = (refl, h)
both_hold false w h = cc

both_then : (v w : Bool) → v ≡ true → w ≡ true → (v && w) ≡ true
both_then true w h k = k
both_then false w h k = cc

left_then : (v w : Bool) → v ≡ true → (v || w) ≡ true
left_then true w h = refl
left_then false w h = cc

right_then : (v w : Bool) → w ≡ true → (v || w) ≡ true
right_then true w h = refl
right_then false w h = h

-- lists with the same front

pub heads : {x y : ℕ} {l m : List ℕ} → x ∷ l ≡ y ∷ m → x ≡ y
heads e = cc

pub tails : {x y : ℕ} {l m : List ℕ} → x ∷ l ≡ y ∷ m → l ≡ m
tails e = cc

pub apart : {P : Type 0} (m n : ℕ) {xs ys : List ℕ} → (m == n) ≡ false → m ∷ xs ≡ n ∷ ys → P
apart m n f e = clash (m == n) ((Decides-eqb m n).1 (heads e)) f

pub same_front : (a r s : List ℕ) → a ++ r ≡ a ++ s → r ≡ s
same_front [] r s e = e
same_front (x ∷ a) r s e = same_front a r s (tails e)

-- at some place both have a byte, and not the same one
abbrev pub differ : List ℕ → List ℕ → Bool
differ [] b = false
differ (x ∷ a) [] = false
differ (x ∷ a) (y ∷ b) = not (x == y) || differ a b

if_same : (v w : Bool) → v ≡ true → (not v || w) ≡ true → w ≡ true
if_same true w h d = d
if_same false w h d = cc

pub fronts_differ : {P : Type 0} (a b r s : List ℕ) → differ a b ≡ true → a ++ r ≡ b ++ s → P
fronts_differ [] b r s d e = cc
fronts_differ (x ∷ a) [] r s d e = cc
fronts_differ (x ∷ a) (y ∷ b) r s d e = fronts_differ a b r s (if_same (x == y) (differ a b) ((Decides-eqb x y).1 (heads e)) d) (tails e)

-- what stands behind both fronts of a text
pub regroup : (a b r c d s : List ℕ) → (a ++ b) ++ r ≡ (c ++ d) ++ s → a ++ (b ++ r) ≡ c ++ (d ++ s)
regroup a b r c d s e = sym (append_assoc a b r) ∙ e ∙ append_assoc c d s

-- words

-- no byte of a name or a number comes first
abbrev pub Stops : List ℕ → Type 0
Stops [] = Unit {0}
Stops (b ∷ rest) = continues_name b ≡ false

abbrev pub IsWord : List ℕ → Type 0
IsWord bytes = list_all continues_name bytes ≡ true

pub word_tells : (a b r s : List ℕ) → IsWord a → IsWord b → Stops r → Stops s → a ++ r ≡ b ++ s → (a ≡ b) × (r ≡ s)
word_tells [] [] r s p q t u e = (refl, e)
word_tells [] (y ∷ b) [] s p q t u e = cc
word_tells [] (y ∷ b) (x ∷ r) s p q t u e =
    clash (continues_name y) (both_hold (continues_name y) (list_all continues_name b) q).0 (subst (λ (z : ℕ). continues_name z ≡ false) (heads e) t)
word_tells (x ∷ a) [] r [] p q t u e = cc
word_tells (x ∷ a) [] r (y ∷ s) p q t u e =
    clash (continues_name x) (both_hold (continues_name x) (list_all continues_name a) p).0 (subst (λ (z : ℕ). continues_name z ≡ false) (sym (heads e)) u)
word_tells (x ∷ a) (y ∷ b) r s p q t u e =
    let rest = word_tells a b r s (both_hold (continues_name x) (list_all continues_name a) p).1 (both_hold (continues_name y) (list_all continues_name b) q).1 t u (tails e) in
    (λ i. heads e i ∷ rest.0 i, rest.1)

name_word : (a : List ℕ) → IsTrue (is_name a) → IsWord a
name_word [] n = refl
name_word (b ∷ a) n =
    let two = both_hold (begins_name b) (list_all continues_name a) n in
    both_then (continues_name b) (list_all continues_name a) (left_then (begins_name b) _ two.0) two.1

pub name_tells : (a b r s : List ℕ) → IsTrue (is_name a) → IsTrue (is_name b) → Stops r → Stops s → a ++ r ≡ b ++ s → (a ≡ b) × (r ≡ s)
name_tells a b r s p q t u e = word_tells a b r s (name_word a p) (name_word b q) t u e

-- a name begins with no other byte
pub no_name : {P : Type 0} (a r : List ℕ) (c : ℕ) (rest : List ℕ) → IsTrue (is_name a) → begins_name c ≡ false → a ++ r ≡ c ∷ rest → P
no_name [] r c rest n f e = cc
no_name (x ∷ a) r c rest n f e =
    clash (begins_name x) (both_hold (begins_name x) (list_all continues_name a) n).0 (subst (λ (z : ℕ). begins_name z ≡ false) (sym (heads e)) f)

abbrev pub is_digit : ℕ → Bool
is_digit b = nat_le 48 b && nat_le b 57

digit_passes : (c : ℕ) → 48 ≤ c → c ≤ 57 → is_digit c ≡ true
digit_passes c low high = both_then (nat_le 48 c) (nat_le c 57) (le-leb _ _ low) (le-leb _ _ high)

digit_continues : (c : ℕ) → 48 ≤ c → c ≤ 57 → continues_name c ≡ true
digit_continues c low high = right_then (begins_name c) (is_digit c) (digit_passes c low high)

digits_word : (ds : List ℕ) → AllDigits 10 ds → IsWord ds
digits_word [] d = refl
digits_word (c ∷ ds) d =
    let digit = digit_from_value c d.0 in
    both_then (continues_name c) (list_all continues_name ds) (digit_continues c (omega arith) (omega arith)) (digits_word ds d.1)

decimal_word : (n : ℕ) → n < 2 ^ 64 → IsWord (decimal n)
decimal_word n h = digits_word (decimal n) (decimal_is_IsNumeral n h).0.1

pub number_tells : (m n : ℕ) (r s : List ℕ) → m < 2 ^ 64 → n < 2 ^ 64 → Stops r → Stops s → decimal m ++ r ≡ decimal n ++ s → (m ≡ n) × (r ≡ s)
number_tells m n r s h k t u e =
    let w = word_tells (decimal m) (decimal n) r s (decimal_word m h) (decimal_word n k) t u e in
    (decimal_injective m n h k w.0, w.1)

-- a number behind a fixed word
pub counted_tells : (w : List ℕ) (m n : ℕ) (r s : List ℕ) → m < 2 ^ 64 → n < 2 ^ 64 → Stops r → Stops s → (w ++ decimal m) ++ r ≡ (w ++ decimal n) ++ s → (m ≡ n) × (r ≡ s)
counted_tells w m n r s h k t u e = number_tells m n r s h k t u (same_front w (decimal m ++ r) (decimal n ++ s) (regroup w (decimal m) r w (decimal n) s e))

-- no digit comes first
abbrev pub NoDigit : List ℕ → Type 0
NoDigit [] = Unit {0}
NoDigit (b ∷ rest) = is_digit b ≡ false

no_digits : {P : Type 0} (ds t r : List ℕ) → AllDigits 10 ds → 0 < length ds → NoDigit r → r ≡ ds ++ t → P
no_digits [] t r d l n e = absurd (omega arith)
no_digits (c ∷ ds) t [] d l n e = cc
no_digits (c ∷ ds) t (b ∷ r) d l n e =
    let digit = digit_from_value c d.0 in
    clash (is_digit c) (digit_passes c (omega arith) (omega arith)) (subst (λ (z : ℕ). is_digit z ≡ false) (heads e) n)

pub no_number : {P : Type 0} (m : ℕ) (t r : List ℕ) → m < 2 ^ 64 → NoDigit r → r ≡ decimal m ++ t → P
no_number m t r h n e = no_digits (decimal m) t r (decimal_is_IsNumeral m h).0.1 (decimal_is_IsNumeral m h).0.0 n e
