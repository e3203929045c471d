-- A rule goes into the lists of its body's literals, once into each.
use Rattle.std.proofs.Common.{◌≡◌, ◌≢◌, ℕ, ◌<◌, false, List, [], ◌∷◌, ◌++◌, length, get_or, set, sym, ap, ◌∙◌, inl, inr, cond, get_or-set_same, get_or-set_other}
use Rattle.std.proofs.lemmas.Bool.{cases_eq}
use Rattle.std.proofs.lemmas.List.{append-nil}
use Rattle.dl_rows.specs.Tables.{RowLists, list_at, spare_at}
use Rattle.dl_rows.specs.Counting.{is_in}
use Rattle.dl_rows.proofs.NumberLists.{is_in-push_same, is_in-push_other}

module _ (old now : RowLists) (done : List ℕ) (b rule : ℕ) (so : (n : ℕ) → list_at now n ≡ list_at old n ++ cond (is_in done n) (rule ∷ []) []) where
  pub added : (new : RowLists) → is_in done b ≡ false → b < length now.lists → new.lists ≡ set now.lists b (list_at now b ++ rule ∷ [])
      → (n : ℕ) → list_at new n ≡ list_at old n ++ cond (is_in (done ++ b ∷ []) n) (rule ∷ []) []
  added new is_new within put n =
      elim (cases_eq n b) [
        | inl e ↦ ap (λ k. list_at new k) e ∙ ap (λ (ls : List (List ℕ)). get_or ls b []) put ∙ get_or-set_same now.lists b (list_at now b ++ rule ∷ []) [] within
            ∙ ap (λ xs. xs ++ rule ∷ []) (so b ∙ ap (λ w. list_at old b ++ cond w (rule ∷ []) []) is_new ∙ append-nil (list_at old b))
            ∙ ap (λ k. list_at old k ++ rule ∷ []) (sym e)
            ∙ ap (λ w. list_at old n ++ cond w (rule ∷ []) []) (sym (is_in-push_same done b n e))
        | inr d ↦ ap (λ (ls : List (List ℕ)). get_or ls n []) put ∙ get_or-set_other now.lists b n (list_at now b ++ rule ∷ []) [] d ∙ so n
            ∙ ap (λ w. list_at old n ++ cond w (rule ∷ []) []) (sym (is_in-push_other done b n d))
      ]

-- room that is not used up stays
pub room_kept : (old now new : RowLists) (done : List ℕ) (b : ℕ) → ((n : ℕ) → is_in done n ≡ false → spare_at now n ≡ spare_at old n)
    → ((n : ℕ) → n ≢ b → spare_at new n ≡ spare_at now n) → (n : ℕ) → is_in (done ++ b ∷ []) n ≡ false → spare_at new n ≡ spare_at old n
room_kept old now new done b so put n e =
    elim (cases_eq n b) [
      | inl s ↦ let there = is_in-push_same done b n s in cc
      | inr d ↦ put n d ∙ so n (sym (is_in-push_other done b n d) ∙ e)
    ]
