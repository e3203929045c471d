-- A search that adds what is ready, until nothing new is.
use Rattle.std.proofs.Common.{◌≡◌, ℕ, zero, suc, ◌<◌, ◌≤◌, List, [], ◌∷◌, ◌++◌, ◌⊎◌, inl, inr, length, sym, subst, arith}
use Rattle.std.specs.Prelude.{Any, Contains, remove}
use Rattle.std.proofs.lemmas.List.Elements.{All-contains, Contains-append_cases, Contains-append_left, Contains-push}
use Rattle.std.proofs.lemmas.List.Sorted.{IsPermutation-remove, Contains-permutation, length_permutation}
use Rattle.dl_base.proofs.Members.{only, all_or_any}

-- what is left of xs without x
record Taken {A : Type 0} (xs : List A) (x : A) : Type 0 where
  rest : List A
  fewer : length rest < length xs
  others : (y : A) → Contains xs y → (y ≡ x) ⊎ Contains rest y

taken : {A : Type 0} (P : A → Type 0) (xs : List A) (h : Any P xs) → Taken xs h.1
taken P xs h =
    let x = h.1 in
    let rest = remove xs h.0 in
    let moved = IsPermutation-remove xs h.0 x h.2 (sym h.3) in
    record {
      rest = rest;
      fewer = omega (arith, length_permutation xs (x ∷ rest) moved);
      others = λ y m. elim (Contains-append_cases (x ∷ []) rest y (Contains-permutation xs (x ∷ rest) y moved m)) [
        | inl one ↦ inl (only x y one)
        | inr there ↦ inr there
      ];
    }

-- a list that keeps what it is to keep, and has what each candidate gives that is ready over it
pub record Ended {A B : Type 0} (Candidate : A → Type 0) (gives : A → B) (Ready : List B → A → Type 0) (Keeps : List B → Type 0) : Type 0 where
  pub seen : List B
  pub keeps : Keeps seen
  pub complete : (x : A) → Candidate x → Ready seen x → Contains seen (gives x)

module _ {A B : Type 0} (Candidate : A → Type 0) (gives : A → B) (Ready : List B → A → Type 0) (Keeps : List B → Type 0)
    (ready_or_not : (seen : List B) (x : A) → Ready seen x ⊎ (¬ Ready seen x))
    (seen_or_not : (seen : List B) (y : B) → Contains seen y ⊎ (¬ Contains seen y))
    (push : (seen : List B) (x : A) → Keeps seen → Ready seen x → (¬ Contains seen (gives x)) → Keeps (seen ++ gives x ∷ [])) where
  -- each one that is ready goes over from those that are left, so they become fewer
  search_on : (n : ℕ) (left : List A) (seen : List B) → length left ≤ n → Keeps seen
      → ((x : A) → Candidate x → Contains seen (gives x) ⊎ Contains left x) → Ended Candidate gives Ready Keeps
  search_on zero left seen short keeps all = record {
    seen = seen;
    keeps = keeps;
    complete = λ x c _. elim (all x c) [ inl there ↦ there | inr l ↦ absurd (omega (arith, short, l.1)) ];
  }
  search_on (suc n) left seen short keeps all =
      elim (all_or_any (λ x. ¬ Ready seen x) (Ready seen) left (λ x _. elim (ready_or_not seen x) [ inl r ↦ inr r | inr none ↦ inl none ])) [
        | inl none ↦ record {
          seen = seen;
          keeps = keeps;
          complete = λ x c r. elim (all x c) [ inl there ↦ there | inr l ↦ absurd (All-contains (λ y. ¬ Ready seen y) left x none l r) ];
        }
        | inr any ↦
            let x = any.1 in
            let t = taken (Ready seen) left any in
            let fewer : length t.rest ≤ n = omega (arith, short, t.fewer) in
            elim (seen_or_not seen (gives x)) [
              | inl there ↦ search_on n t.rest seen fewer keeps
                  (λ y c. elim (all y c) [
                    | inl s ↦ inl s
                    | inr l ↦ elim (t.others y l) [ inl e ↦ inl (subst (λ (z : A). Contains seen (gives z)) (sym e) there) | inr r ↦ inr r ]
                  ])
              | inr new ↦ search_on n t.rest (seen ++ gives x ∷ []) fewer (push seen x keeps any.4 new)
                  (λ y c. elim (all y c) [
                    | inl s ↦ inl (Contains-append_left seen (gives x ∷ []) (gives y) s)
                    | inr l ↦ elim (t.others y l) [
                      | inl e ↦ inl (subst (λ (z : A). Contains (seen ++ gives x ∷ []) (gives z)) (sym e) (Contains-push seen (gives x)))
                      | inr r ↦ inr r
                    ]
                  ])
            ]
      ]

  pub search : (left : List A) (seen : List B) → Keeps seen → ((x : A) → Candidate x → Contains left x) → Ended Candidate gives Ready Keeps
  search left seen keeps all = search_on (length left) left seen (omega arith) keeps (λ x c. inr (all x c))
