-- A split: a new seat, which has seen as much as another, and has no number and no lines.
use Rattle.std.proofs.Common.{◌≡◌, ℕ, List, [], ◌∷◌, ◌++◌, refl, sym, ap, subst, inl, inr, ⊎_elim, arith}
use Rattle.std.proofs.lemmas.List.Elements.{All-nil}
use Rattle.std.proofs.lemmas.List.Sums.{sum_by_push}
use Rattle.std.specs.Prelude.{None}
use mathlib.Core.Option.{some}
use lib.ListN.{get_elem?}
use Rattle.crossbeam_queue.specs.Fifo.{Forks}
use Rattle.crossbeam_queue.proofs.Lists.{at_snoc, at_longer, set_again}
use Rattle.dl_turn.specs.History.{HasLines}
use Rattle.dl_turn.specs.Steps.{beside, claims}
use Rattle.dl_turn.specs.Rules.{Fits, IsHome, IsOut, IsKept, Holds}
use Rattle.dl_turn.specs.declared.view.PassView.{PassView}
use Rattle.dl_turn.specs.declared.view.Stage.TheVariants.{Seated}
use Rattle.dl_turn.proofs.Kept.{seated_kept}
use Rattle.dl_turn.proofs.Lists.{each_snoc}

module _ {B L S : Type 0} (start : B → S) (history : B → List L) (enrolled : B → ℕ) (number : L → ℕ) (none : S) where
  abbrev Rule : List B → List (PassView L S) → Type 0
  Rule = Holds start history enrolled number none

  abbrev Kept : List B → List (PassView L S) → Type 0
  Kept = IsKept start history enrolled number

  pub forks : (p : ℕ) (v : PassView L S) → v.stage ≡ Seated → Forks Rule p v v (beside v)
  forks p v seated items views rule at =
      let k : Kept items views = seated_kept start history enrolled number none items views p v seated at rule in
      let f = k.fits p v at in
      let w : PassView L S = beside v in
      let fw : Fits number k.s k.h k.c w = record { seen = f.seen; also_seen = (k.h, refl); mine = refl; below = tt; olds = All-nil (HasLines number k.h k.c); starts = λ e. f.starts seated; begun = λ e. absurd (cc) } in
      let now : Kept items (views ++ w ∷ []) = record {
        s = k.s;
        h = k.h;
        c = k.c;
        placed = ⊎_elim
            (λ (x : IsHome start history enrolled number items views k.s k.h k.c). inl (x.0, x.1, x.2, x.3, x.4, each_snoc (λ (u : PassView L S). u.out ≡ None) views w refl x.5))
            (λ (x : IsOut start history enrolled number items views k.h k.c).
            inr (
              x.0,
              (
                x.1.0,
                x.1.1,
                at_longer views (w ∷ []) x.1.0 x.1.1 x.1.2,
                x.1.3,
                x.1.4,
                λ i u n e. ⊎_elim (λ (y : get_elem? views i ≡ some u). x.1.5 i u n y) (λ (y : w ≡ u). ap (λ (z : PassView L S). z.out) (sym y)) (at_snoc views w u i e),
              ),
            ))
            k.placed;
        fits = each_snoc (Fits number k.s k.h k.c) views w fw k.fits;
        apart = λ j. let t = sum_by_push (claims j) views w in let a = k.apart j in omega (arith, t, a);
        below = k.below;
      } in
      inr (subst (λ (l : List (PassView L S)). Kept items (l ++ w ∷ [])) (sym (set_again views p v at)) now)
