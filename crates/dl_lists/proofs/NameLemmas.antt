-- Distinct labels in two parts, one behind the other.
use Rattle.std.proofs.Common.{arith, get_or, ◌-◌, ◌≡◌, ℕ, ◌+◌, ◌<◌, ◌≤◌, Bool, true, false, cond, List, [], ◌∷◌, ◌++◌, length, take, drop, refl, sym, ap, ◌∙◌, subst, inl, inr, true≢false}
use Rattle.std.specs.Prelude.{Contains}
use Rattle.std.proofs.lemmas.List.{append_assoc, append-nil, get_or-append-add, get_or-take, length-append, length-take-le, take-append-drop}
use Rattle.std.proofs.Math.Seq.{take-append-add}
use Rattle.std.proofs.lemmas.List.Elements.{Contains-append_cases, Contains-append_right}
use Rattle.dl_base.specs.Paths.{IsDistinct}
use Rattle.dl_base.proofs.Distinct.{distinct_push, distinct_left}

-- where the first part lacks a label, it is new exactly where it is new in the second
module _ (ss ks : List (List ℕ)) (l : List ℕ) (absent : ¬ Contains ss l) (new : Bool)
    (told : (new ≡ false → Contains ks l) × (Contains ks l → new ≡ false)) where
  pub new_in_both : (new ≡ false → Contains (ss ++ ks) l) × (Contains (ss ++ ks) l → new ≡ false)
  new_in_both = (
    λ e. Contains-append_right ss ks l (told.0 e),
    λ m. elim (Contains-append_cases ss ks l m) [
      | inl first ↦ absurd (absent first)
      | inr second ↦ told.1 second
    ],
  )

  pub distinct_inserted : (more : List (List ℕ)) → more ≡ ks ++ cond new (l ∷ []) [] → IsDistinct (ss ++ ks) → IsDistinct (ss ++ more)
  distinct_inserted more e h = by new refl
    where
      by : (b : Bool) → new ≡ b → IsDistinct (ss ++ more)
      by true is = subst (λ (ls : List (List ℕ)). IsDistinct ls)
          (append_assoc ss ks (l ∷ []) ∙ ap (λ (ls : List (List ℕ)). ss ++ ls) (sym (e ∙ ap (λ b. ks ++ cond b (l ∷ []) []) is)))
          (distinct_push (ss ++ ks) l h (λ m. true≢false (sym is ∙ new_in_both.1 m)))
      by false is = subst (λ (ls : List (List ℕ)). IsDistinct (ss ++ ls))
          (sym (e ∙ ap (λ b. ks ++ cond b (l ∷ []) []) is ∙ append-nil ks)) h

-- among distinct names the next one is not among those before it
pub next_name : (xs : List (List ℕ)) (i : ℕ) (x : List ℕ) → IsDistinct xs → i < length xs → x ≡ get_or xs i x → ¬ Contains (take i xs) x
next_name xs i x distinct lt is m =
    let before : m.0 < i = omega (arith, m.1, length-take-le i xs (omega (arith, lt))) in
    distinct m.0 i x before lt (sym (get_or-take i xs m.0 x before) ∙ m.2 ∙ is)

-- a name that comes next in the second part stands neither in the first nor before it in the second
pub next_behind : (ks xs : List (List ℕ)) (i : ℕ) (x : List ℕ) → IsDistinct (ks ++ xs) → i < length xs → x ≡ get_or xs i x
    → ¬ Contains (ks ++ take i xs) x
next_behind ks xs i x h lt is m =
    next_name (ks ++ xs) (length ks + i) x h (omega (arith, lt, length-append ks xs)) (is ∙ sym (get_or-append-add ks xs i x))
    (subst (λ (ls : List (List ℕ)). Contains ls x) (sym (take-append-add ks xs i)) m)

-- names are cut behind the first part
pub cut_behind : (ss ks : List (List ℕ)) (count : ℕ) → length ss ≤ count → take count (ss ++ ks) ≡ ss ++ take (count - length ss) ks
cut_behind ss ks count enough =
    ap (λ (n : ℕ). take n (ss ++ ks)) (omega (arith, enough)) ∙ take-append-add ss ks (count - length ss)

pub distinct_take : (xs : List (List ℕ)) (n : ℕ) → IsDistinct xs → IsDistinct (take n xs)
distinct_take xs n h = distinct_left (take n xs) (drop n xs) (subst (λ (l : List (List ℕ)). IsDistinct l) (sym (take-append-drop n xs)) h)
