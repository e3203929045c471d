-- The opening push: from the empty place and the fresh view to the board with an empty history.
use Rattle.std.proofs.Common.{◌≡◌, ℕ, ◌<◌, List, [], ◌∷◌, ◌++◌, set, refl, sym, ap, subst, inl, inr, ⊎_elim, arith}
use Rattle.std.proofs.lemmas.List.Elements.{All-nil}
use mathlib.Core.Option.{some}
use lib.ListN.{get_elem?}
use Rattle.crossbeam_queue.specs.Fifo.{Pushes, Learns}
use Rattle.dl_turn.specs.History.{HasLines}
use Rattle.dl_turn.specs.Steps.{fresh, newcomer}
use Rattle.dl_turn.specs.Rules.{Fits, IsKept, Holds}
use Rattle.dl_turn.specs.declared.view.PassView.{PassView}
use Rattle.dl_turn.specs.declared.view.Stage.TheVariants.{Fresh}
use Rattle.dl_turn.proofs.Lists.{only_one}

module _ {B L S : Type 0} (start : B → S) (history : B → List L) (enrolled : B → ℕ) (number : L → ℕ) (none : S) where
  abbrev Rule : List B → List (PassView L S) → Type 0
  Rule = Holds start history enrolled number none

  abbrev Kept : List B → List (PassView L S) → Type 0
  Kept = IsKept start history enrolled number

  opened : (b : B) → history b ≡ [] → enrolled b ≡ 0 → Kept (b ∷ []) (newcomer (start b) [] ∷ [])
  opened b empty nobody = let w : PassView L S = newcomer (start b) [] in record {
    s = start b;
    h = [];
    c = 0;
    placed = inl (b, refl, refl, empty, nobody, λ i v e. ap (λ (u : PassView L S). u.out) (sym (only_one w i v e).1));
    fits = λ i v e. subst (Fits number (start b) [] 0) (only_one w i v e).1 (record { seen = ([], refl); also_seen = ([], refl); mine = refl; below = tt; olds = All-nil (HasLines number [] 0); starts = λ q. refl; begun = λ q. absurd (cc) });
    apart = λ k. omega arith;
    below = All-nil (λ l. number l < 0);
  }

  pub opens : (n p : ℕ) (v : PassView L S) (b : B) → v.stage ≡ Fresh → history b ≡ [] → enrolled b ≡ 0 → Pushes Rule n p v b (λ w. w ≡ newcomer (start b) [])
  opens n p v b is empty nobody items views room rule at = let w : PassView L S = newcomer (start b) [] in (
    w,
    ⊎_elim
        (λ (x : (items ≡ []) × (views ≡ fresh none ∷ [])).
        let one = only_one (fresh none) p v (subst (λ (l : List (PassView L S)). get_elem? l p ≡ some v) x.1 at) in
        let now : Kept (b ∷ []) (w ∷ []) = opened b empty nobody in
        let same : set views p w ≡ w ∷ [] = λ i. set (x.1 i) (one.0 i) w in
        let held : items ++ b ∷ [] ≡ b ∷ [] = ap (λ l. l ++ b ∷ []) x.0 in
        let R : List B × List (PassView L S) → Type 0 = λ y. Rule y.0 y.1 in
        subst R (λ i. (sym held i, sym same i)) (inr now))
        (λ (k : Kept items views). absurd ((k.fits p v at).begun is))
        rule,
    refl,
  )

  -- the opening push is not refused, since the place is empty
  pub unopened : (p : ℕ) (v : PassView L S) → v.stage ≡ Fresh → Learns Rule p v (λ items. items ≡ [])
  unopened p v is items views rule at = ⊎_elim (λ (x : (items ≡ []) × (views ≡ fresh none ∷ [])). x.0) (λ (k : Kept items views). absurd ((k.fits p v at).begun is)) rule
