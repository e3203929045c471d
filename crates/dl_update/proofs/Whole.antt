-- The region of all names, and marks before and after the fills of a region.
use Rattle.std.proofs.Common.{◌≡◌, ℕ, ◌<◌, ◌+◌, ◌++◌, ◌∷◌, [], List, Bool, false, ◌⊎◌, inl, inr, sym, subst, arith, ◌∙◌}
use Rattle.std.specs.Prelude.{Contains, IsTrue, MatchOption, slice_get, ◌↔◌}
use Rattle.dl_lit.specs.Literal.{tagged}
use Rattle.dl_theory.specs.Derivations.{Follows}
use Rattle.std.proofs.lemmas.List.Elements.{All-weaker, Contains-append_left, Contains-push}
use Rattle.std.proofs.lemmas.Bool.{cases_eq}
use Rattle.dl_lit.specs.declared.literal.Family.{Family}
use Rattle.dl_marks.specs.Marks.{Marking, marked, is_owned}
use Rattle.dl_graph.specs.Numbers.{NetLists}
use Rattle.dl_graph.specs.Region.{Numbers}
use Rattle.dl_fill.specs.Before.{tag_of}
use Rattle.dl_fill.specs.Filled.{IsReady, IsFilled, IsRight}
use Rattle.dl_fill.proofs.Written.{member_or_not}

-- a region that got a number has it, and what it had
pub has_put : (old new : List ℕ) (number n : ℕ) → (Contains old number → new ≡ old) → ((¬ Contains old number) → new ≡ old ++ number ∷ [])
    → Contains old n ⊎ (n ≡ number) → Contains new n
has_put old new number n there fresh h =
    elim (member_or_not old number) [
      | inl m ↦ subst (λ (xs : List ℕ). Contains xs n) (sym (there m)) (elim h [
        | inl k ↦ k
        | inr e ↦ subst (λ (x : ℕ). Contains old x) (sym e) m
      ])
      | inr m ↦ subst (λ (xs : List ℕ). Contains xs n) (sym (fresh m)) (elim h [
        | inl k ↦ Contains-append_left old (number ∷ []) n k
        | inr e ↦ subst (λ (x : ℕ). Contains (old ++ number ∷ []) x) (sym e) (Contains-push old number)
      ])
    ]

pub all_put : (old new : List ℕ) (number : ℕ) → (Contains old number → new ≡ old) → ((¬ Contains old number) → new ≡ old ++ number ∷ [])
    → ((n : ℕ) → n < number → Contains old n) → (n : ℕ) → n < number + 1 → Contains new n
all_put old new number there fresh h n lt =
    has_put old new number n there fresh (elim (cases_eq n number) [
      | inl e ↦ inr e
      | inr apart ↦ inl (h n (omega (arith, lt, apart)))
    ])

-- marks that are ready for a fill of some families are so after a fill of others
pub still_ready : (N : NetLists) (region : Numbers) (old new : Marking) (Ours Theirs : Family → Type 0) → IsReady N Theirs old region
    → IsFilled N Ours old new → ((f : Family) → Theirs f → ¬ Ours f) → IsReady N Theirs new region
still_ready N region old new Ours Theirs ready filled apart = record {
  bound = ready.bound;
  room = omega (arith, ready.room, filled.places);
  owned =
      All-weaker (λ n. IsTrue (is_owned old n)) (λ n. IsTrue (is_owned new n)) (λ n o. subst (λ (b : Bool). IsTrue b) (sym (filled.owned n)) o)
      region.members ready.owned;
  outside = λ f theirs plus n lt outside.
      subst
      (λ (b : Bool). MatchOption (slice_get N.names n) (IsTrue b ↔ (plus ≡ false)) (λ q. IsTrue b ↔ Follows N.theory (tagged plus f q)))
      (sym (filled.others f (apart f theirs) plus n)) (ready.outside f theirs plus n (subst (λ (p : ℕ). n < p) filled.places lt) outside);
  absent = λ f theirs plus.
      All-weaker (λ n. marked old (tag_of plus f) n ≡ false) (λ n. marked new (tag_of plus f) n ≡ false)
      (λ n e. filled.others f (apart f theirs) plus n ∙ e) region.members (ready.absent f theirs plus);
}

-- right marks of a family stay right where another is filled
pub still_right : (N : NetLists) (old new : Marking) (Ours : Family → Type 0) (f : Family) → IsRight N old f → IsFilled N Ours old new
    → (¬ Ours f) → IsRight N new f
still_right N old new Ours f right filled apart = λ plus n lt.
    subst
    (λ (b : Bool). MatchOption (slice_get N.names n) (IsTrue b ↔ (plus ≡ false)) (λ q. IsTrue b ↔ Follows N.theory (tagged plus f q)))
    (sym (filled.others f apart plus n)) (right plus n (subst (λ (p : ℕ). n < p) filled.places lt))

-- marks that are ready for a fill of some families are so for fewer
pub ready_fewer : (N : NetLists) (region : Numbers) (m : Marking) (Ours Theirs : Family → Type 0) → IsReady N Theirs m region
    → ((f : Family) → Ours f → Theirs f) → IsReady N Ours m region
ready_fewer N region m Ours Theirs ready fewer = record {
  bound = ready.bound;
  room = ready.room;
  owned = ready.owned;
  outside = λ f ours. ready.outside f (fewer f ours);
  absent = λ f ours. ready.absent f (fewer f ours);
}
