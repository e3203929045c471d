-- The rows of bytes.
use Rattle.std.proofs.Common.{◌≡◌, ℕ, zero, suc, ◌<◌, Bool, true, false, ◌&&◌, nat_eq, if◌then◌else◌, List, [], ◌∷◌, length, map, get_or, set, replicate, inl, inr, refl, sym, ap, ap₂, ◌∙◌, arith, eq-eqb, ne_eqb, get_or-set_same, get_or-set_other, ◌≤◌, ◌-◌, ◌++◌, not}
use Rattle.std.proofs.lemmas.Bool.{cases_eq, cases_lt, and_right, both_ways}
use Rattle.std.proofs.lemmas.List.{get_or_past, get_or-append_right, get_or-replicate, length-map}
use Rattle.dl_lit.specs.declared.literal.Tag.{Tag}
use Rattle.dl_marks.specs.Marks.{Row, no_row, mark, same_tag}
use Rattle.dl_marks.specs.Bytes.{row_of}
use Rattle.dl_marks.proofs.ByteLemmas.{new_byte}

-- past the last byte no tag stands
pub row_read : (bytes : List ℕ) (n : ℕ) → get_or (map row_of bytes) n no_row ≡ row_of (get_or bytes n 0)
row_read [] n = refl
row_read (b ∷ bytes) zero = refl
row_read (b ∷ bytes) (suc n) = row_read bytes n

and_true : (a : Bool) → (a && true) ≡ a
and_true true = refl
and_true false = refl

-- one byte is written
pub row_written : (bytes new : List ℕ) (number byte : ℕ) (tag : Tag) (value : Bool) → number < length bytes → new ≡ set bytes number byte
    → ((t : Tag) → mark (row_of byte) t ≡ (if same_tag t tag then value else mark (row_of (get_or bytes number 0)) t))
    → (t : Tag) (n : ℕ)
    → mark (get_or (map row_of new) n no_row) t
    ≡ (if same_tag t tag && nat_eq n number then value else mark (get_or (map row_of bytes) n no_row) t)
row_written bytes new number byte tag value within put here t n =
    elim (cases_eq n number) [
      | inl same ↦
          ap (λ (r : Row). mark r t) (row_read new n)
          ∙ ap₂ (λ (bs : List ℕ) m. mark (row_of (get_or bs m 0)) t) put same
          ∙ ap (λ b. mark (row_of b) t) (get_or-set_same bytes number byte 0 within)
          ∙ here t
          ∙ ap₂ (λ (b : Bool) m. if b then value else mark (row_of (get_or bytes m 0)) t)
          (sym (ap (λ (b : Bool). same_tag t tag && b) (eq-eqb n number same) ∙ and_true (same_tag t tag))) (sym same)
          ∙ ap (λ (r : Row). if same_tag t tag && nat_eq n number then value else mark r t) (sym (row_read bytes n))
      | inr apart ↦
          ap (λ (r : Row). mark r t) (row_read new n)
          ∙ ap (λ (bs : List ℕ). mark (row_of (get_or bs n 0)) t) put
          ∙ ap (λ b. mark (row_of b) t) (get_or-set_other bytes number n byte 0 apart)
          ∙ ap (λ (r : Row). mark r t) (sym (row_read bytes n))
          ∙ ap (λ (b : Bool). if b then value else mark (get_or (map row_of bytes) n no_row) t)
          (sym (and_right (same_tag t tag) (nat_eq n number) (ne_eqb n number apart)))
    ]

-- what is owned is within
pub owned_within : (owned : List Bool) (len i : ℕ) → len ≡ length owned → get_or owned i false ≡ true → i < len
owned_within owned len i size h =
    elim (cases_lt i len) [
      | inl less ↦ less
      | inr past ↦ absurd (both_ways (get_or owned i false) (get_or_past owned i false (omega (arith, past, size))) h)
    ]

-- what stands behind the old bytes
pub row_new : (bytes grown : List ℕ) (len : ℕ) (t : Tag) (n : ℕ) → grown ≡ bytes ++ replicate (len - length bytes) 240
    → length (map row_of bytes) ≤ n → n < len → mark (get_or (map row_of grown) n no_row) t ≡ not t.plus
row_new bytes grown len t n is past within =
    let behind : length bytes ≤ n = omega (arith, past, length-map bytes row_of) in
    ap (λ (r : Row). mark r t) (row_read grown n)
    ∙ ap (λ b. mark (row_of b) t)
    (ap (λ (xs : List ℕ). get_or xs n 0) is
    ∙ get_or-append_right bytes (replicate (len - length bytes) 240) (length bytes) n 0 refl behind
    ∙ get_or-replicate (len - length bytes) (n - length bytes) 240 0 (omega (arith, behind, within)))
    ∙ new_byte t
