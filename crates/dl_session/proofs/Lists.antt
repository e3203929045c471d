-- Lists that begin one another, and what stands in them.
use Rattle.std.proofs.Common.{◌≡◌, ℕ, zero, suc, ◌<◌, List, [], ◌∷◌, ◌++◌, length, get_or, Some, slice_get, refl, sym, ap, subst, inl, inr, ◌∙◌, arith, append_assoc, append-nil, length-append}
use Rattle.std.specs.Prelude.{◌⊎◌, Any}
use Rattle.dl_turn.specs.History.{StartsWith}

pub begins_itself : {A : Type 0} (xs : List A) → StartsWith xs xs
begins_itself xs = ([], sym (append-nil xs))

pub begins_on : {A : Type 0} (xs ys zs : List A) → StartsWith zs ys → StartsWith ys xs → StartsWith zs xs
begins_on xs ys zs a b = (b.0 ++ a.0, a.1 ∙ ap (λ l. l ++ a.0) b.1 ∙ append_assoc xs b.0 a.0)

get_first : {A : Type 0} (xs more : List A) (n : ℕ) (x : A) → slice_get xs n ≡ Some x → slice_get (xs ++ more) n ≡ Some x
get_first [] more n x e = absurd (cc)
get_first (y ∷ xs) more zero x e = e
get_first (y ∷ xs) more (suc n) x e = get_first xs more n x e

-- what stands at a place of a list stands there in one that begins with it
pub get_more : {A : Type 0} (xs ys : List A) (n : ℕ) (x : A) → StartsWith ys xs → slice_get xs n ≡ Some x → slice_get ys n ≡ Some x
get_more xs ys n x h e = subst (λ l. slice_get l n ≡ Some x) (sym h.1) (get_first xs h.0 n x e)

get_front : {A : Type 0} (xs ys : List A) (k : ℕ) (d : A) → k < length xs → get_or (xs ++ ys) k d ≡ get_or xs k d
get_front [] ys k d h = absurd (omega arith)
get_front (x ∷ xs) ys zero d h = refl
get_front (x ∷ xs) ys (suc k) d h = get_front xs ys k d (omega arith)

module _ {A : Type 0} (P : A → Type 0) where
  pub any_none : Any P [] → ⊥
  any_none h = omega (arith, h.2)

  pub any_one : (x : A) → P x → Any P (x ∷ [])
  any_one x p = (0, x, omega arith, refl, p)

  pub of_one : (x : A) → Any P (x ∷ []) → P x
  of_one x (zero, y, within, at, p) = subst P (sym at) p
  of_one x (suc k, y, within, at, p) = absurd (omega (arith, within))

  pub any_front : (xs ys : List A) → Any P xs → Any P (xs ++ ys)
  any_front xs ys (k, x, within, at, p) = (k, x, omega (arith, within, length-append xs ys), get_front xs ys k x within ∙ at, p)

  pub any_behind : (xs ys : List A) → Any P ys → Any P (xs ++ ys)
  any_behind [] ys h = h
  any_behind (x ∷ xs) ys h = let r = any_behind xs ys h in (suc r.0, r.1, omega (arith, r.2), r.3, r.4)

  pub any_either : (xs ys : List A) → Any P (xs ++ ys) → Any P xs ⊎ Any P ys
  any_either [] ys h = inr h
  any_either (x ∷ xs) ys (zero, y, within, at, p) = inl (0, y, omega arith, at, p)
  any_either (x ∷ xs) ys (suc k, y, within, at, p) = later (any_either xs ys (k, y, omega (arith, within), at, p))
    where
      later : Any P xs ⊎ Any P ys → Any P (x ∷ xs) ⊎ Any P ys
      later (inl h) = inl (suc h.0, h.1, omega (arith, h.2), h.3, h.4)
      later (inr h) = inr h
