-- Which entry each number has, and the last number with each.
use Rattle.std.proofs.Common.{◌≡◌, ℕ, ◌+◌, ◌<◌, ◌≤◌, Some, List, [], ◌∷◌, ◌++◌, length, get_or, set, sym, ap, ◌∙◌, subst, arith, inl, inr, get_or-set_same, get_or-set_other}
use Rattle.std.specs.Prelude.{Contains, slice_get}
use Rattle.std.specs.List.{range_with_len}
use Rattle.std.proofs.lemmas.Bool.{cases_lt, cases_eq}
use Rattle.std.proofs.lemmas.Option.{slice_get_within, get_or_from_slice_get, slice_get-get_or}
use Rattle.std.proofs.lemmas.List.{map-id, get_or_append_left, get_or_push, length_push, length-set}
use Rattle.std.proofs.lemmas.List.Elements.{All-from_get_or, All-push, All-weaker, Contains-push, Contains-append_left}
use Rattle.std.proofs.lemmas.List.FromFn.{length-range_with_len, get_or-range_with_len, map-range_with_len_more}
use Rattle.dl_lists.specs.Last.{IsLast}
use Rattle.dl_lists.specs.Entries.{AreEntered}
use Rattle.dl_lists.specs.KeptEntries.{AreColumns}
use Rattle.dl_lists.proofs.LastLemmas.{last_push, last_kept}

-- ---- numbers that are their own entries

pub range_more : (n : ℕ) → range_with_len 0 (n + 1) ≡ range_with_len 0 n ++ n ∷ []
range_more n =
    sym (map-id (range_with_len 0 (n + 1))) ∙ map-range_with_len_more (λ (k : ℕ). k) 0 n n (omega arith)
    ∙ ap (λ (l : List ℕ). l ++ n ∷ []) (map-id (range_with_len 0 n))

pub range_get : (len n : ℕ) → n < len → get_or (range_with_len 0 len) n 0 ≡ n
range_get len n lt = omega (arith, get_or-range_with_len 0 len n 0 lt)

range_at : (len n x : ℕ) → slice_get (range_with_len 0 len) n ≡ Some x → n ≡ x
range_at len n x h =
    let within : n < length (range_with_len 0 len) = slice_get_within (range_with_len 0 len) n x h in
    omega (
      arith,
      range_get len n (omega (arith, within, length-range_with_len 0 len)),
      get_or_from_slice_get (range_with_len 0 len) n x 0 h,
    )

pub range_last : (len n : ℕ) → n < len → IsLast (range_with_len 0 len) n n
range_last len n lt = record {
  has = slice_get-get_or (range_with_len 0 len) n 0 (omega (arith, lt, length-range_with_len 0 len))
      ∙ ap Some (range_get len n lt);
  none_later = λ m later h. absurd (omega (arith, later, range_at len m n h));
}

pub columns_same : (len : ℕ) → len ≤ 4294967295 → AreColumns (range_with_len 0 len) (range_with_len 0 len)
columns_same len few =
    let long : length (range_with_len 0 len) ≡ len = length-range_with_len 0 len in
    record {
      last = λ e lt.
          let within : e < len = omega (arith, lt, long) in
          subst (λ (n : ℕ). IsLast (range_with_len 0 len) e n) (sym (range_get len e within)) (range_last len e within);
      within = All-from_get_or (λ e. e < length (range_with_len 0 len)) (range_with_len 0 len) 0
          (λ k lt. omega (arith, lt, long, range_get len k (omega (arith, lt, long))));
      fewer = omega arith;
      few = omega (arith, long, few);
    }

-- ---- one more number

pub columns_new : (ls es : List ℕ) → AreColumns ls es → length es < 4294967295 → AreColumns (ls ++ length es ∷ []) (es ++ length ls ∷ [])
columns_new ls es h few =
    let long : length (ls ++ length es ∷ []) ≡ length ls + 1 = length_push ls (length es) in
    let more : length (es ++ length ls ∷ []) ≡ length es + 1 = length_push es (length ls) in
    record {
      last = λ e lt.
          elim (cases_lt e (length ls)) [
            | inl old ↦
                subst (λ (n : ℕ). IsLast (es ++ length ls ∷ []) e n) (sym (get_or_append_left ls (length es ∷ []) 0 e old))
                (last_kept es e (length ls) (get_or ls e 0) (λ same. absurd (omega (arith, same, old))) (h.last e old))
            | inr past ↦
                let here : length ls ≡ e = omega (arith, lt, past, long) in
                subst (λ (n : ℕ). IsLast (es ++ length ls ∷ []) e n) (sym (get_or_push ls (length es) 0 e here))
                (subst (λ (k : ℕ). IsLast (es ++ length ls ∷ []) k (length es)) here (last_push es (length ls)))
          ];
      within = All-push (λ e. e < length (ls ++ length es ∷ [])) es (length ls)
          (All-weaker (λ e. e < length ls) (λ e. e < length (ls ++ length es ∷ [])) (λ e lt. omega (arith, lt, long)) es h.within)
          (omega (arith, long));
      fewer = omega (arith, h.fewer, long, more);
      few = omega (arith, few, more);
    }

pub columns_again : (ls es : List ℕ) (e : ℕ) → AreColumns ls es → e < length ls → length es < 4294967295
    → AreColumns (set ls e (length es)) (es ++ e ∷ [])
columns_again ls es e h within few =
    let long : length (set ls e (length es)) ≡ length ls = length-set ls e (length es) in
    let more : length (es ++ e ∷ []) ≡ length es + 1 = length_push es e in
    record {
      last = λ k lt.
          elim (cases_eq k e) [
            | inl here ↦
                subst (λ (n : ℕ). IsLast (es ++ e ∷ []) k n)
                (sym (ap (λ (j : ℕ). get_or (set ls e (length es)) j 0) here ∙ get_or-set_same ls e (length es) 0 within))
                (subst (λ (j : ℕ). IsLast (es ++ e ∷ []) j (length es)) (sym here) (last_push es e))
            | inr other ↦
                subst (λ (n : ℕ). IsLast (es ++ e ∷ []) k n) (sym (get_or-set_other ls e k (length es) 0 other))
                (last_kept es k e (get_or ls k 0) (λ same. other (sym same)) (h.last k (omega (arith, lt, long))))
          ];
      within = All-push (λ j. j < length (set ls e (length es))) es e
          (All-weaker (λ j. j < length ls) (λ j. j < length (set ls e (length es))) (λ j lt. omega (arith, lt, long)) es h.within)
          (omega (arith, within, long));
      fewer = omega (arith, h.fewer, long, more);
      few = omega (arith, few, more);
    }

-- ---- what holds however the entries are kept

pub entered_none : AreEntered [] 0
entered_none = record { within = λ k d lt. absurd (omega (arith, lt)); met = λ e lt. absurd (omega (arith, lt)) }

pub entered_new : (es : List ℕ) (count : ℕ) → AreEntered es count → AreEntered (es ++ count ∷ []) (count + 1)
entered_new es count h = record {
  within = All-push (λ e. e < count + 1) es count
      (All-weaker (λ e. e < count) (λ e. e < count + 1) (λ e lt. omega (arith, lt)) es h.within) (omega arith);
  met = λ e lt.
      elim (cases_lt e count) [
        | inl old ↦ Contains-append_left es (count ∷ []) e (h.met e old)
        | inr past ↦ subst (λ (k : ℕ). Contains (es ++ count ∷ []) k) (omega (arith, lt, past)) (Contains-push es count)
      ];
}

pub entered_again : (es : List ℕ) (count e : ℕ) → AreEntered es count → e < count → AreEntered (es ++ e ∷ []) count
entered_again es count e h within = record {
  within = All-push (λ k. k < count) es e h.within within;
  met = λ k lt. Contains-append_left es (e ∷ []) k (h.met k lt);
}

pub entered_all : (len : ℕ) → AreEntered (range_with_len 0 len) len
entered_all len =
    let long : length (range_with_len 0 len) ≡ len = length-range_with_len 0 len in
    record {
      within = All-from_get_or (λ e. e < len) (range_with_len 0 len) 0 (λ k lt. omega (arith, lt, long, range_get len k (omega (arith, lt, long))));
      met = λ e lt. (e, omega (arith, lt, long), omega (arith, get_or-range_with_len 0 len e e lt));
    }
