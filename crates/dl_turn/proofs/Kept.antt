-- What the rule says once the board is in its place: the seats may take and give, and one at most is out.
use Rattle.std.proofs.Common.{◌≡◌, ◌≢◌, ℕ, true, false, List, [], ◌∷◌, sym, ap, ◌∙◌, subst, ⊎_elim}
use Rattle.std.proofs.lemmas.Bool.Decides.{eqb_tells}
use Rattle.std.specs.Prelude.{◌==◌, Some, None}
use mathlib.Core.Option.{some, some-injective}
use lib.ListN.{get_elem?}
use Rattle.dl_turn.specs.Steps.{fresh}
use Rattle.dl_turn.specs.Rules.{IsHome, IsOut, IsKept, Holds}
use Rattle.dl_turn.specs.declared.view.PassView.{PassView}
use Rattle.dl_turn.specs.declared.view.Stage.TheVariants.{Fresh, Seated}
use Rattle.dl_turn.proofs.Lists.{only_one}

module _ {B L S : Type 0} (start : B → S) (history : B → List L) (enrolled : B → ℕ) (number : L → ℕ) (none : S) where
  -- where there is a seat that may take and give, the board was put into its place
  pub seated_kept : (items : List B) (views : List (PassView L S)) (p : ℕ) (v : PassView L S) → v.stage ≡ Seated → get_elem? views p ≡ some v
      → Holds start history enrolled number none items views → IsKept start history enrolled number items views
  seated_kept items views p v seated at = ⊎_elim
      (λ (x : (items ≡ []) × (views ≡ fresh none ∷ [])).
      let one = only_one (fresh none) p v (subst (λ (l : List (PassView L S)). get_elem? l p ≡ some v) x.1 at) in
      let bad : Fresh ≡ Seated = ap (λ (u : PassView L S). u.stage) one.1 ∙ seated in absurd (cc))
      (λ (k : IsKept start history enrolled number items views). k)

  -- where a seat is out, the place is empty, the seat has the history and the count, and no other seat is out
  pub holder : (items : List B) (views : List (PassView L S)) (k : IsKept start history enrolled number items views) (p : ℕ) (v : PassView L S) → get_elem? views p ≡ some v → v.out ≢ None
      → (items ≡ []) × (v.out ≡ Some (k.h, k.c)) × ((i : ℕ) (u : PassView L S) → i ≢ p → get_elem? views i ≡ some u → u.out ≡ None)
  holder items views k p v at out = ⊎_elim
      (λ (x : IsHome start history enrolled number items views k.s k.h k.c). absurd (out (x.5 p v at)))
      (λ (x : IsOut start history enrolled number items views k.h k.c).
      ⊎_elim
      (λ (t : ((p == x.1.0) ≡ true) × (p ≡ x.1.0)).
      let same : x.1.1 ≡ v = some-injective x.1.1 v (sym x.1.2 ∙ ap (λ j. get_elem? views j) (sym t.1) ∙ at) in
      (x.0, ap (λ (u : PassView L S). u.out) (sym same) ∙ x.1.3, λ i u n e. x.1.5 i u (λ q. n (q ∙ sym t.1)) e))
      (λ (t : ((p == x.1.0) ≡ false) × (p ≢ x.1.0)). absurd (out (x.1.5 p v t.1 at)))
      (eqb_tells p x.1.0))
      k.placed
