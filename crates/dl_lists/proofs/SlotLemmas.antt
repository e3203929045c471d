-- Places of a table of numbers, some of which are empty.
use Rattle.std.proofs.Common.{◌≡◌, ℕ, ◌-◌, ◌<◌, ◌≤◌, cond, None, Some, List, ◌++◌, length, get_or, map, replicate, refl, sym, ap, ◌∙◌, arith, inl, inr, length-append}
use Rattle.std.proofs.lemmas.Bool.{cases_lt}
use Rattle.std.proofs.lemmas.List.{get_or-map, get_or_past, length-map, length-replicate, get_or_append_left, get_or-append_right, get_or-replicate}
use Rattle.std.specs.Prelude.{All}
use Rattle.std.proofs.lemmas.List.Elements.{All-weaker}
use Rattle.dl_base.proofs.Members.{map_agree}
use Rattle.dl_rows.proofs.NumberLists.{differ}
use Rattle.dl_lists.specs.KeptSlots.{slot_of}

pub slot_some : (n : ℕ) → n < 4294967295 → slot_of n ≡ Some n
slot_some n lt = ap (λ b. cond b None (Some n)) (differ n 4294967295 (λ e. absurd (omega (arith, e, lt))))

pub slots_some : (ns : List ℕ) → All (λ n. n < 4294967295) ns → map slot_of ns ≡ map Some ns
slots_some ns h = map_agree slot_of Some ns (All-weaker (λ n. n < 4294967295) (λ n. slot_of n ≡ Some n) slot_some ns h)

pub slot_none : slot_of 4294967295 ≡ None
slot_none = refl

-- places that were kept, and empty ones behind them
module _ (xs ys : List ℕ) (len : ℕ) (wide : length xs ≤ len) (grown : ys ≡ xs ++ replicate (len - length xs) 4294967295) where
  pub widened_len : length ys ≡ len
  widened_len =
      ap (λ (l : List ℕ). length l) grown ∙ length-append xs (replicate (len - length xs) 4294967295)
      ∙ omega (arith, length-replicate {A = ℕ} (len - length xs) 4294967295, wide)

  pub widened : (n : ℕ) → get_or (map slot_of ys) n None ≡ get_or (map slot_of xs) n None
  widened n =
      elim (cases_lt n (length xs)) [
        | inl lt ↦ get_or-map slot_of ys n 0 None (omega (arith, lt, wide, widened_len))
            ∙ ap slot_of (ap (λ (l : List ℕ). get_or l n 0) grown ∙ get_or_append_left xs (replicate (len - length xs) 4294967295) 0 n lt)
            ∙ sym (get_or-map slot_of xs n 0 None lt)
        | inr past ↦ elim (cases_lt n len) [
          | inl lt ↦ get_or-map slot_of ys n 0 None (omega (arith, lt, widened_len))
              ∙ ap slot_of (ap (λ (l : List ℕ). get_or l n 0) grown
              ∙ get_or-append_right xs (replicate (len - length xs) 4294967295) (length xs) n 0 refl past
              ∙ get_or-replicate (len - length xs) (n - length xs) 4294967295 0 (omega (arith, lt, past)))
              ∙ sym (get_or_past (map slot_of xs) n None (omega (arith, past, length-map xs slot_of)))
          | inr end ↦ get_or_past (map slot_of ys) n None (omega (arith, end, widened_len, length-map ys slot_of))
              ∙ sym (get_or_past (map slot_of xs) n None (omega (arith, past, length-map xs slot_of)))
        ]
      ]
