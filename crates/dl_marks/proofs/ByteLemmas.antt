-- Reading and writing one bit of a byte, as one mark of a row.
use Rattle.std.proofs.Common.{◌≡◌, ◌≢◌, ℕ, ◌+◌, ◌*◌, ◌%◌, ◌^◌, ◌<◌, Bool, true, false, ◌&&◌, nat_eq, if◌then◌else◌, bit_and, bit_or, w8, inl, inr, refl, sym, ap, ◌∙◌, arith, eq-eqb, ne_eqb, add-zero, not}
use Rattle.std.specs.Bool.{beq}
use Rattle.std.specs.Int.{bit_at, bit_not}
use Rattle.std.proofs.lemmas.Bool.{cases_eq}
use Rattle.std.proofs.lemmas.Nat.Bits.{bit_at_set_same, bit_at_set_other, bit_at_clear_same, bit_at_clear_other}
use Rattle.dl_lit.specs.declared.literal.Tag.{Tag}
use Rattle.dl_lit.specs.declared.literal.Family.{Family}
use Rattle.dl_lit.specs.declared.literal.Family.TheVariants.{Definite, Blocking, Propagating, Support}
use Rattle.dl_lit.specs.Order.{family_index}
use Rattle.dl_marks.specs.Marks.{of_family, mark, same_tag}
use Rattle.dl_marks.proofs.MarkLemmas.{all_alike-mark}
use Rattle.dl_marks.specs.Bytes.{place, has_bit, families_of, row_of}

family_bit : (byte i : ℕ) (f : Family) → of_family (families_of byte i) f ≡ has_bit byte (i + family_index f)
family_bit byte i Definite = ap (has_bit byte) (sym (add-zero i))
family_bit byte i Blocking = refl
family_bit byte i Propagating = refl
family_bit byte i Support = refl

side_bit : (byte : ℕ) (p : Bool) (f : Family)
    → of_family (if p then families_of byte 0 else families_of byte 4) f ≡ has_bit byte ((if p then 0 else 4) + family_index f)
side_bit byte true f = family_bit byte 0 f
side_bit byte false f = family_bit byte 4 f

-- a mark of a row is the bit at its place
pub mark_bit : (byte : ℕ) (t : Tag) → mark (row_of byte) t ≡ has_bit byte (place t)
mark_bit byte t = side_bit byte t.plus t.family

few_families : (f : Family) → family_index f < 4
few_families Definite = omega arith
few_families Blocking = omega arith
few_families Propagating = omega arith
few_families Support = omega arith

few_places : (p : Bool) (a : ℕ) → a < 4 → (if p then 0 else 4) + a < 8
few_places true a h = omega (arith, h)
few_places false a h = omega (arith, h)

place_small : (t : Tag) → place t < 8
place_small t = few_places t.plus (family_index t.family) (few_families t.family)

add_same : (n a b : ℕ) → nat_eq (n + a) (n + b) ≡ nat_eq a b
add_same n a b =
    elim (cases_eq a b) [
      | inl same ↦ eq-eqb (n + a) (n + b) (ap (λ m. n + m) same) ∙ sym (eq-eqb a b same)
      | inr apart ↦ ne_eqb (n + a) (n + b) (λ e. apart (omega (arith, e))) ∙ sym (ne_eqb a b apart)
    ]

apart_halves : (p q : Bool) (a b : ℕ) → a < 4 → b < 4
    → nat_eq ((if p then 0 else 4) + a) ((if q then 0 else 4) + b) ≡ (beq p q && nat_eq a b)
apart_halves true true a b h k = add_same 0 a b
apart_halves true false a b h k = ne_eqb (0 + a) (4 + b) (λ e. omega (arith, h, k, e))
apart_halves false true a b h k = ne_eqb (4 + a) (0 + b) (λ e. omega (arith, h, k, e))
apart_halves false false a b h k = add_same 4 a b

-- two tags have one place where they are the same
same_place : (t u : Tag) → nat_eq (place t) (place u) ≡ same_tag t u
same_place t u = apart_halves t.plus u.plus (family_index t.family) (family_index u.family) (few_families t.family) (few_families u.family)

-- one bit has a value, and the others are as they were
one_bit : (old new : ℕ) (tag : Tag) (value : Bool) → has_bit new (place tag) ≡ value
    → ((i : ℕ) → i < 8 → i ≢ place tag → bit_at new i ≡ bit_at old i)
    → (t : Tag) → mark (row_of new) t ≡ (if same_tag t tag then value else mark (row_of old) t)
one_bit old new tag value here others t =
    elim (cases_eq (place t) (place tag)) [
      | inl same ↦
          mark_bit new t ∙ ap (has_bit new) same ∙ here
          ∙ sym (ap (λ (b : Bool). if b then value else mark (row_of old) t) (sym (same_place t tag) ∙ eq-eqb _ _ same))
      | inr apart ↦
          mark_bit new t ∙ ap (λ n. nat_eq n 1) (others (place t) (place_small t) apart) ∙ sym (mark_bit old t)
          ∙ sym (ap (λ (b : Bool). if b then value else mark (row_of old) t) (sym (same_place t tag) ∙ ne_eqb _ _ apart))
    ]

pub bit_set : (byte : ℕ) (tag t : Tag)
    → mark (row_of (bit_or byte (1 * 2 ^ place tag % 256))) t ≡ (if same_tag t tag then true else mark (row_of byte) t)
bit_set byte tag =
    one_bit byte _ tag true (ap (λ n. nat_eq n 1) (bit_at_set_same w8 byte (place tag) (place_small tag)))
    (λ i small apart. bit_at_set_other w8 byte (place tag) (place_small tag) i apart)

pub bit_cleared : (byte : ℕ) (tag t : Tag)
    → mark (row_of (bit_and byte (bit_not w8 (1 * 2 ^ place tag % 256)))) t ≡ (if same_tag t tag then false else mark (row_of byte) t)
bit_cleared byte tag =
    one_bit byte _ tag false (ap (λ n. nat_eq n 1) (bit_at_clear_same w8 byte (place tag) (place_small tag)))
    (λ i small apart. bit_at_clear_other w8 byte (place tag) (place_small tag) i small apart)

new_side : (p : Bool) (f : Family) → of_family (if p then families_of 240 0 else families_of 240 4) f ≡ not p
new_side true f = all_alike-mark false f
new_side false f = all_alike-mark true f

-- the byte of a new number has the four minus tags
pub new_byte : (t : Tag) → mark (row_of 240) t ≡ not t.plus
new_byte t = new_side t.plus t.family
