-- A take that gets the board: the place is emptied and the seat is out. A take that finds none changes nothing.
use Rattle.std.proofs.Common.{◌≡◌, ℕ, List, ◌∷◌, set, refl, sym, ap, ◌∙◌, subst, inr, ⊎_elim, arith}
use Rattle.std.specs.Prelude.{Some}
use Rattle.crossbeam_queue.specs.Fifo.{Pops}
use Rattle.crossbeam_queue.proofs.Lists.{set_here, set_else}
use Rattle.dl_turn.specs.History.{AllBelow}
use Rattle.dl_turn.specs.Steps.{taken, claims}
use Rattle.dl_turn.specs.Rules.{Fits, IsHome, IsOut, IsKept, Holds}
use Rattle.dl_turn.specs.declared.view.PassView.{PassView}
use Rattle.dl_turn.specs.declared.view.Stage.TheVariants.{Seated}
use Rattle.dl_turn.proofs.Kept.{seated_kept}
use Rattle.dl_turn.proofs.Lists.{each_set, at_below, heads, tails, sum_by-set_at}

module _ {B L S : Type 0} (start : B → S) (history : B → List L) (enrolled : B → ℕ) (number : L → ℕ) (none : S) where
  abbrev Rule : List B → List (PassView L S) → Type 0
  Rule = Holds start history enrolled number none

  abbrev Kept : List B → List (PassView L S) → Type 0
  Kept = IsKept start history enrolled number

  pub takes : (p : ℕ) (v : PassView L S) → v.stage ≡ Seated → Pops Rule p v (λ b w. (w ≡ taken (history b) (enrolled b) v) × Fits number (start b) (history b) (enrolled b) v × AllBelow number (enrolled b) (history b))
  takes p v seated b items views rule at =
      let k : Kept (b ∷ items) views = seated_kept start history enrolled number none (b ∷ items) views p v seated at rule in
      let w : PassView L S = taken (history b) (enrolled b) v in
      let f = k.fits p v at in ⊎_elim
      (λ (x : IsHome start history enrolled number (b ∷ items) views k.s k.h k.c).
      let same : b ≡ x.0 = heads x.1 in
      let s : start b ≡ k.s = ap start same ∙ x.2 in
      let h : history b ≡ k.h = ap history same ∙ x.3 in
      let c : enrolled b ≡ k.c = ap enrolled same ∙ x.4 in
      let fw : Fits number k.s k.h k.c w = record { seen = f.seen; also_seen = f.also_seen; mine = f.mine; below = f.below; olds = f.olds; starts = f.starts; begun = f.begun } in
      let now : Kept items (set views p w) = record {
        s = k.s;
        h = k.h;
        c = k.c;
        placed = inr (tails x.1, (p, w, set_here views p w (at_below views p v at), (λ i. Some (h i, c i)), seated, λ i u n e. x.5 i u (sym (set_else views p i w n) ∙ e)));
        fits = each_set (λ _. Fits number k.s k.h k.c) views p w fw (λ j u n e. k.fits j u e);
        apart = λ j. let t = sum_by-set_at (claims j) views p v w at in let a = k.apart j in omega (arith, t, a);
        below = k.below;
      } in
      let F : S × List L × ℕ → Type 0 = λ y. Fits number y.0 y.1 y.2 v in
      (w, inr now, (refl, subst F (λ i. (sym s i, sym h i, sym c i)) f, subst (λ (y : ℕ × List L). AllBelow number y.0 y.1) (λ i. (sym c i, sym h i)) k.below)))
      (λ (x : IsOut start history enrolled number (b ∷ items) views k.h k.c). let bad = x.0 in absurd (cc))
      k.placed
