-- One rule more below another.
use Rattle.std.proofs.Common.{◌≡◌, ◌≢◌, ℕ, ◌<◌, ◌≤◌, Option, List, [], ◌∷◌, ◌++◌, length, get_or, set, refl, sym, ap, ◌∙◌, subst, arith, inl, inr, get_or-set_same, get_or-set_other}
use Rattle.std.specs.Prelude.{All, Contains}
use Rattle.std.proofs.lemmas.Bool.{cases_eq}
use Rattle.std.proofs.lemmas.List.Elements.{All-nil, All-push, All-contains, Contains-append_left, Contains-append_cases, Contains-push}
use Rattle.dl_base.proofs.Members.{only}
use Rattle.dl_rows.specs.Tables.{RowLists, list_at, list_of}
use Rattle.dl_rules.specs.Lines.{Line, IsThere}
use Rattle.dl_rules.specs.Indexes.{by_number, HasLinks}
use Rattle.dl_rules.proofs.NumberLemmas.{numbered_at, numbered_set}
use Rattle.dl_rules.proofs.ThereLemmas.{there_within}

-- a number at the end of one list of a table
pub record Puts (t t' : RowLists) (n x : ℕ) : Type 0 where
  pub within : n < length t.lists
  pub lists : t'.lists ≡ set t.lists n (list_at t n ++ x ∷ [])

module _ (t t' : RowLists) (n x : ℕ) (p : Puts t t' n x) where
  pub put_here : list_at t' n ≡ list_at t n ++ x ∷ []
  put_here = ap (λ (ls : List (List ℕ)). get_or ls n []) p.lists ∙ get_or-set_same t.lists n (list_at t n ++ x ∷ []) [] p.within

  pub put_other : (k : ℕ) → k ≢ n → list_at t' k ≡ list_at t k
  put_other k differs = ap (λ (ls : List (List ℕ)). get_or ls k []) p.lists ∙ get_or-set_other t.lists n k (list_at t n ++ x ∷ []) [] differs

  pub put_keeps : (k y : ℕ) → Contains (list_at t k) y → Contains (list_at t' k) y
  put_keeps k y m =
      elim (cases_eq k n) [
        | inl e ↦
            subst (λ (j : ℕ). Contains (list_at t' j) y) (sym e)
            (subst (λ (xs : List ℕ). Contains xs y) (sym put_here) (Contains-append_left (list_at t n) (x ∷ []) y (subst (λ (j : ℕ). Contains (list_at t j) y) e m)))
        | inr d ↦ subst (λ (xs : List ℕ). Contains xs y) (sym (put_other k d)) m
      ]

  pub put_adds : Contains (list_at t' n) x
  put_adds = subst (λ (xs : List ℕ). Contains xs x) (sym put_here) (Contains-push (list_at t n) x)

  -- what stands in a list stood there, or is the new one
  pub put_from : (P : Type 0) (k y : ℕ) → Contains (list_at t' k) y → (Contains (list_at t k) y → P) → (k ≡ n → y ≡ x → P) → P
  put_from P k y m old new =
      elim (cases_eq k n) [
        | inl e ↦
            elim (Contains-append_cases (list_at t n) (x ∷ []) y
            (subst (λ (xs : List ℕ). Contains xs y) put_here (subst (λ (j : ℕ). Contains (list_at t' j) y) e m))) [
              | inl there ↦ old (subst (λ (j : ℕ). Contains (list_at t j) y) (sym e) there)
              | inr one ↦ new e (only x y one)
            ]
        | inr d ↦ old (subst (λ (xs : List ℕ). Contains xs y) (put_other k d) m)
      ]

  pub put_all : (P : ℕ → Type 0) → P x → ((k : ℕ) → All P (list_at t k)) → (k : ℕ) → All P (list_at t' k)
  put_all P here all k =
      elim (cases_eq k n) [
        | inl e ↦
            subst (λ (j : ℕ). All P (list_at t' j)) (sym e)
            (subst (λ (xs : List ℕ). All P xs) (sym put_here) (All-push P (list_at t n) x (all n) here))
        | inr d ↦ subst (λ (xs : List ℕ). All P xs) (sym (put_other k d)) (all k)
      ]

  pub numbered_put : (len : ℕ) → n < len → by_number len t' ≡ set (by_number len t) n (list_of (by_number len t) n ++ x ∷ [])
  numbered_put len lt =
      numbered_set len t t' n (list_of (by_number len t) n ++ x ∷ []) lt
      (put_here ∙ ap (λ (xs : List ℕ). xs ++ x ∷ []) (sym (numbered_at len t n lt))) put_other

-- no rule stands below another
pub HasLinks-none : (lines : List (Option Line)) (lowers uppers : RowLists) → ((s : ℕ) → list_at lowers s ≡ []) → ((s : ℕ) → list_at uppers s ≡ [])
    → HasLinks lines lowers uppers
HasLinks-none lines lowers uppers no_lower no_upper = record {
  lower_there = λ s. subst (λ (xs : List ℕ). All (IsThere lines) xs) (sym (no_lower s)) (All-nil (IsThere lines));
  upper_there = λ s. subst (λ (xs : List ℕ). All (IsThere lines) xs) (sym (no_upper s)) (All-nil (IsThere lines));
  turned = λ s t m. let none : Contains [] t = subst (λ (xs : List ℕ). Contains xs t) (no_lower s) m in absurd (omega (arith, none.1));
  turned_back = λ s t m. let none : Contains [] s = subst (λ (xs : List ℕ). Contains xs s) (no_upper t) m in absurd (omega (arith, none.1));
}

pub HasLinks-put : (lines : List (Option Line)) (lowers uppers lowers' uppers' : RowLists) (u l : ℕ) → HasLinks lines lowers uppers
    → IsThere lines u → IsThere lines l → Puts lowers lowers' u l → Puts uppers uppers' l u → HasLinks lines lowers' uppers'
HasLinks-put lines lowers uppers lowers' uppers' u l h mu ml pl pu = record {
  lower_there = put_all lowers lowers' u l pl (IsThere lines) ml h.lower_there;
  upper_there = put_all uppers uppers' l u pu (IsThere lines) mu h.upper_there;
  turned = λ s t m.
      put_from lowers lowers' u l pl (Contains (list_at uppers' t) s) s t m (λ old. put_keeps uppers uppers' l u pu t s (h.turned s t old))
      (λ e f. subst (λ (x : ℕ). Contains (list_at uppers' t) x) (sym e) (subst (λ (y : ℕ). Contains (list_at uppers' y) u) (sym f) (put_adds uppers uppers' l u pu)));
  turned_back = λ s t m.
      put_from uppers uppers' l u pu (Contains (list_at lowers' s) t) t s m (λ old. put_keeps lowers lowers' u l pl s t (h.turned_back s t old))
      (λ e f. subst (λ (x : ℕ). Contains (list_at lowers' s) x) (sym e) (subst (λ (y : ℕ). Contains (list_at lowers' y) l) (sym f) (put_adds lowers lowers' u l pl)));
}

-- what is not there has no list, since it stands in none
no_members : (xs : List ℕ) → ((y : ℕ) → ¬ Contains xs y) → xs ≡ []
no_members [] none = refl
no_members (x ∷ xs) none = absurd (none x (0, omega arith, refl))

module _ {lines : List (Option Line)} {lowers uppers : RowLists} (h : HasLinks lines lowers uppers) where
  pub lower_past : (s : ℕ) → length lines ≤ s → list_at lowers s ≡ []
  lower_past s past =
      no_members (list_at lowers s)
      (λ t m. absurd (omega (arith, past, there_within lines s (All-contains (IsThere lines) (list_at uppers t) s (h.upper_there t) (h.turned s t m)))))

  pub upper_past : (s : ℕ) → length lines ≤ s → list_at uppers s ≡ []
  upper_past s past =
      no_members (list_at uppers s)
      (λ t m. absurd (omega (arith, past, there_within lines s (All-contains (IsThere lines) (list_at lowers t) s (h.lower_there t) (h.turned_back t s m)))))
