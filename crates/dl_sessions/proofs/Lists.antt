-- Lists that grow together, place by place, and lists that begin one another.
use Rattle.std.proofs.Common.{◌≡◌, ℕ, ◌+◌, List, [], ◌∷◌, ◌++◌, All, length, refl, ap, subst, ◌∙◌, append_assoc, arith}
use Rattle.std.proofs.lemmas.List.Elements.{All-nil, All-cons, All-head, All-tail}
use Rattle.dl_turn.specs.History.{StartsWith}
use Rattle.dl_sessions.specs.Served.{AllAt}

pub begins_on : {A : Type 0} (xs ys zs : List A) → StartsWith zs ys → StartsWith ys xs → StartsWith zs xs
begins_on xs ys zs a b = (b.0 ++ a.0, a.1 ∙ ap (λ l. l ++ a.0) b.1 ∙ append_assoc xs b.0 a.0)

module _ {A : Type 0} (P : A → Type 0) where
  pub all_first : (xs ys : List A) → All P (xs ++ ys) → All P xs
  all_first [] ys h = All-nil P
  all_first (x ∷ xs) ys h = All-cons P x xs (All-head P x (xs ++ ys) h) (all_first xs ys (All-tail P x (xs ++ ys) h))

  pub all_second : (xs ys : List A) → All P (xs ++ ys) → All P ys
  all_second [] ys h = h
  all_second (x ∷ xs) ys h = all_second xs ys (All-tail P x (xs ++ ys) h)

  -- by the clause of `pop` on the items
  pub all_popped : (all front : List A) (last : A) → all ≡ front ++ last ∷ [] → All P all → All P front × P last
  all_popped all front last e h =
      let whole = subst (All P) e h in
      (all_first front (last ∷ []) whole, All-head P last [] (all_second front (last ∷ []) whole))

module _ {A B : Type 0} (R : ℕ → A → B → Type 0) where
  pub at_snoc : (k : ℕ) (xs : List A) (ys : List B) (x : A) (y : B) → AllAt R k xs ys → R (k + length ys) x y → AllAt R k (xs ++ x ∷ []) (ys ++ y ∷ [])
  at_snoc k [] [] x y z r = (subst (λ n. R n x y) (omega arith) r, tt)
  at_snoc k [] (b ∷ ys) x y z r = absurd z
  at_snoc k (a ∷ xs) [] x y z r = absurd z
  at_snoc k (a ∷ xs) (b ∷ ys) x y z r = (z.0, at_snoc (k + 1) xs ys x y z.1 (subst (λ n. R n x y) (omega arith) r))

  pub at_length : (k : ℕ) (xs : List A) (ys : List B) → AllAt R k xs ys → length ys ≡ length xs
  at_length k [] [] z = refl
  at_length k [] (b ∷ ys) z = absurd z
  at_length k (a ∷ xs) [] z = absurd z
  at_length k (a ∷ xs) (b ∷ ys) z = let e = at_length (k + 1) xs ys z.1 in omega arith

  pub at_none : (k : ℕ) (xs : List A) (ys : List B) → ys ≡ [] → AllAt R k xs ys → xs ≡ []
  at_none k [] ys e z = refl
  at_none k (a ∷ xs) ys e z = absurd (subst (AllAt R k (a ∷ xs)) e z)

  -- of two lists, of which the second ends with this
  pub record EndsWith (k : ℕ) (xs : List A) (ys : List B) (y : B) : Type 0 where
    pub front : List A
    pub last : A
    pub is : xs ≡ front ++ last ∷ []
    pub all : AllAt R k front ys
    pub this : R (k + length ys) last y

  pub at_last : (k : ℕ) (xs : List A) (ys : List B) (y : B) → AllAt R k xs (ys ++ y ∷ []) → EndsWith k xs ys y
  at_last k [] [] y z = absurd z
  at_last k [] (b ∷ ys) y z = absurd z
  at_last k (a ∷ []) [] y z = record { front = []; last = a; is = refl; all = tt; this = subst (λ n. R n a y) (omega arith) z.0 }
  at_last k (a ∷ b ∷ xs) [] y z = absurd z.1
  at_last k (a ∷ xs) (b ∷ ys) y z =
      let e = at_last (k + 1) xs ys y z.1 in
      record { front = a ∷ e.front; last = e.last; is = ap (λ l. a ∷ l) e.is; all = (z.0, e.all); this = subst (λ n. R n e.last y) (omega arith) e.this }

  pub at_all : (Q : B → Type 0) → ((k : ℕ) (x : A) (y : B) → R k x y → Q y) → (k : ℕ) (xs : List A) (ys : List B) → AllAt R k xs ys → All Q ys
  at_all Q f k [] [] z = All-nil Q
  at_all Q f k [] (b ∷ ys) z = absurd z
  at_all Q f k (a ∷ xs) [] z = absurd z
  at_all Q f k (a ∷ xs) (b ∷ ys) z = All-cons Q b ys (f k a b z.0) (at_all Q f (k + 1) xs ys z.1)
