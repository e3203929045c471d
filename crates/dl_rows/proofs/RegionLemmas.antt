-- The bits and the members of a region.
use Rattle.std.proofs.Common.{◌≡◌, ◌≢◌, ℕ, ◌+◌, ◌*◌, ◌/◌, ◌%◌, ◌^◌, ◌<◌, ◌≤◌, Bool, true, false, nat_eq, if◌then◌else◌, List, [], ◌∷◌, ◌++◌, length, get_or, set, take, bit_or, w64, inl, inr, sym, ap, subst, ◌∙◌, arith, eq-eqb, ne_eqb, get_or-set_same, get_or-set_other}
use Rattle.std.specs.Prelude.{All, Contains}
use Rattle.std.specs.Int.{bit_at}
use Rattle.std.specs.List.{range_with_len}
use Rattle.std.proofs.lemmas.Bool.{cases_eq, false≢true, both_ways}
use Rattle.std.proofs.lemmas.Nat.Bits.{bit_at-zero, bit_at_set_same, bit_at_set_other}
use Rattle.std.proofs.lemmas.List.{take_more, length_push}
use Rattle.std.proofs.lemmas.List.Elements.{All-push, Contains-push, Contains-push_cases, Contains-append_left}
use Rattle.std.proofs.lemmas.List.FromFn.{length-range_with_len, get_or-range_with_len}
use Rattle.dl_base.specs.Paths.{IsDistinct}
use Rattle.dl_base.proofs.Distinct.{distinct_push, no_longer}
use Rattle.dl_rows.specs.Region.{has, IsKeptRegion}

-- a word is written, and the bits of the others are as before
has-other_word : (words : List ℕ) (at word n : ℕ) → n / 64 ≢ at → has (set words at word) n ≡ has words n
has-other_word words at word n apart = ap (λ w. nat_eq (bit_at w (n % 64)) 1) (get_or-set_other words at (n / 64) word 0 apart)

has-this_word : (words : List ℕ) (at word n : ℕ) → at < length words → n / 64 ≡ at → has (set words at word) n ≡ nat_eq (bit_at word (n % 64)) 1
has-this_word words at word n within same =
    ap (λ k. nat_eq (bit_at (get_or (set words at word) k 0) (n % 64)) 1) same
    ∙ ap (λ w. nat_eq (bit_at w (n % 64)) 1) (get_or-set_same words at word 0 within)

abbrev with_bit : List ℕ → ℕ → ℕ
with_bit words number = bit_or (get_or words (number / 64) 0) (1 * 2 ^ (number % 64) % 2 ^ 64)

pub has_set : (words : List ℕ) (number : ℕ) → number / 64 < length words → (n : ℕ)
    → has (set words (number / 64) (bit_or (get_or words (number / 64) 0) (1 * 2 ^ (number % 64) % 2 ^ 64))) n ≡ (if nat_eq n number then true else has words n)
has_set words number within n =
    let low : number % 64 < 64 = omega arith in
    elim (cases_eq n number) [
      | inl same ↦
          has-this_word words (number / 64) (with_bit words number) n within (ap (λ k. k / 64) same)
          ∙ ap (λ k. nat_eq (bit_at (with_bit words number) (k % 64)) 1) same
          ∙ ap (λ b. nat_eq b 1) (bit_at_set_same w64 (get_or words (number / 64) 0) (number % 64) low)
          ∙ sym (ap (λ (b : Bool). if b then true else has words n) (eq-eqb n number same))
      | inr apart ↦
          elim (cases_eq (n / 64) (number / 64)) as (λ _. has (set words (number / 64) (with_bit words number)) n ≡ has words n) [
            | inl word ↦
                has-this_word words (number / 64) (with_bit words number) n within word
                ∙ ap (λ b. nat_eq b 1) (bit_at_set_other w64 (get_or words (number / 64) 0) (number % 64) low (n % 64) (λ place. apart (omega arith)))
                ∙ ap (λ k. nat_eq (bit_at (get_or words k 0) (n % 64)) 1) (sym word)
            | inr other ↦ has-other_word words (number / 64) (with_bit words number) n other
          ]
          ∙ sym (ap (λ (b : Bool). if b then true else has words n) (ne_eqb n number apart))
    ]

-- the word of one more number is cleared
pub wiped_more : (old now numbers : List ℕ) (i : ℕ) → i < length numbers → get_or numbers i 0 / 64 < length now
    → ((n : ℕ) → has now n ≡ true → (has old n ≡ true) × (¬ Contains (take i numbers) n))
    → (n : ℕ) → has (set now (get_or numbers i 0 / 64) 0) n ≡ true → (has old n ≡ true) × (¬ Contains (take (i + 1) numbers) n)
wiped_more old now numbers i within inside before n there =
    let x : ℕ = get_or numbers i 0 in
    elim (cases_eq (n / 64) (x / 64)) [
      | inl word ↦
          absurd (false≢true
          (sym (has-this_word now (x / 64) 0 n inside word ∙ ap (λ b. nat_eq b 1) (bit_at-zero (n % 64))) ∙ there))
      | inr other ↦
          let past = before n (sym (has-other_word now (x / 64) 0 n other) ∙ there) in (
            past.0,
            λ member.
                elim (Contains-push_cases (take i numbers) x n (subst (λ (xs : List ℕ). Contains xs n) (take_more numbers i 0 within) member)) [
                  | inl earlier ↦ past.1 earlier
                  | inr this ↦ other (ap (λ k. k / 64) (sym this))
                ],
          )
    ]

module _ (bound : ℕ) (words members : List ℕ) (room : ℕ) (kept : IsKeptRegion bound words members room) where
  -- with one more number
  module _ (number : ℕ) (below : number < bound) (free : has words number ≡ false) where
    absent : ¬ Contains members number
    absent member = both_ways (has words number) free ((kept.bits number).1 member)

    more_distinct : IsDistinct (members ++ number ∷ [])
    more_distinct = distinct_push members number kept.region.distinct absent

    more_below : All (λ n. n < bound) (members ++ number ∷ [])
    more_below = All-push (λ n. n < bound) members number kept.region.below below

    -- there is room for it
    pub room_left : length members < room
    room_left =
        let fit = no_longer (members ++ number ∷ []) (range_with_len 0 bound) more_distinct
        (λ k d within.
        let n : ℕ = get_or (members ++ number ∷ []) k d in
        let small : n < bound = more_below k d within in
        (n, rw (length-range_with_len 0 bound) small, get_or-range_with_len 0 bound n n small ∙ omega arith)) in
        omega (arith, fit, kept.enough, length_push members number, length-range_with_len 0 bound)

    pub one_more : (new : List ℕ) (now : ℕ) → length new ≡ length words
        → ((n : ℕ) → has new n ≡ (if nat_eq n number then true else has words n)) → room ≤ now
        → IsKeptRegion bound new (members ++ number ∷ []) now
    one_more new now len bits larger = record {
      region = record { distinct = more_distinct; below = more_below };
      enough = omega (arith, kept.enough, larger);
      few = kept.few;
      words_enough = omega (arith, kept.words_enough, len);
      bits = λ n. (
        λ there.
            elim (cases_eq n number) [
              | inl same ↦ subst (λ k. Contains (members ++ number ∷ []) k) (sym same) (Contains-push members number)
              | inr apart ↦
                  Contains-append_left members (number ∷ []) n
                  ((kept.bits n).0
                  (ap (λ (b : Bool). if b then true else has words n) (sym (ne_eqb n number apart)) ∙ sym (bits n) ∙ there))
            ],
        λ member.
            elim (Contains-push_cases members number n member) [
              | inr this ↦ bits n ∙ ap (λ (b : Bool). if b then true else has words n) (eq-eqb n number (sym this))
              | inl earlier ↦
                  elim (cases_eq n number) [
                    | inl same ↦ bits n ∙ ap (λ (b : Bool). if b then true else has words n) (eq-eqb n number same)
                    | inr apart ↦
                        bits n ∙ ap (λ (b : Bool). if b then true else has words n) (ne_eqb n number apart) ∙ (kept.bits n).1 earlier
                  ]
            ],
      );
    }
