-- A join: one seat gets the numbers and lines of another, of which nothing is left.
use Rattle.std.proofs.Common.{◌≡◌, ◌≢◌, ℕ, ◌+◌, ◌<◌, List, set, refl, sym, ap, ◌∙◌, subst, inl, inr, ⊎_elim, arith}
use Rattle.std.proofs.lemmas.List.Elements.{All-nil, All-append}
use Rattle.std.proofs.lemmas.List.Sums.{sum_by-append}
use Rattle.std.specs.Prelude.{Option, Some, None, IfSome}
use mathlib.Core.Option.{some, some-injective}
use lib.ListN.{get_elem?}
use Rattle.crossbeam_queue.specs.Fifo.{Merges}
use Rattle.crossbeam_queue.proofs.Lists.{at_set, set_else}
use Rattle.dl_turn.specs.History.{own_lines, HasLines}
use Rattle.dl_turn.specs.Steps.{joined, emptied, claims, is_at}
use Rattle.dl_turn.specs.Views.{with_own}
use Rattle.dl_turn.specs.Rules.{Fits, IsHome, IsOut, IsKept, Holds}
use Rattle.dl_turn.specs.declared.view.PassView.{PassView}
use Rattle.dl_turn.specs.declared.view.Stage.TheVariants.{Seated}
use Rattle.dl_turn.proofs.Kept.{seated_kept}
use Rattle.dl_turn.proofs.Lists.{each_set, sum_by-set_at, begins_longer}
use Rattle.dl_turn.proofs.Numbers.{with_own-all, sum_by-with_own}

-- what is known of a seat's own lines, where its number is known
own_has : {L : Type 0} (number : L → ℕ) (h : List L) (c : ℕ) (n : Option ℕ) (mine : List L) → mine ≡ own_lines number n h → IfSome n (λ k. k < c) → (j : ℕ) → n ≡ Some j → HasLines number h c (j, mine)
own_has {L} number h c n mine m b j e = (
  m ∙ ap (λ n. own_lines number n h) e,
  subst (λ (n : Option ℕ). IfSome n (λ k. k < c)) e b,
)

module _ {B L S : Type 0} (start : B → S) (history : B → List L) (enrolled : B → ℕ) (number : L → ℕ) (none : S) where
  abbrev Rule : List B → List (PassView L S) → Type 0
  Rule = Holds start history enrolled number none

  abbrev Kept : List B → List (PassView L S) → Type 0
  Kept = IsKept start history enrolled number

  pub merges : (p : ℕ) (v : PassView L S) (q : ℕ) (u : PassView L S) → v.stage ≡ Seated → u.stage ≡ Seated → v.out ≡ None → u.out ≡ None → Merges Rule p v q u (joined v u) (emptied none)
  merges p v q u seated seated' in_v in_u items views rule at apart at' =
      let k : Kept items views = seated_kept start history enrolled number none items views p v seated at rule in
      let f = k.fits p v at in
      let w : PassView L S = joined v u in
      let vs : List (PassView L S) = set views p w in
      let z : PassView L S = emptied none in
      let was : get_elem? views q ≡ some u = ⊎_elim (λ (x : (q ≡ p) × (w ≡ u)). absurd (apart x.0)) (λ (x : (q ≢ p) × (get_elem? views q ≡ some u)). x.1) (at_set views p q w u at') in
      let g = k.fits q u was in
      let seen = begins_longer v.seen u.seen k.h f.seen g.seen in
      let P : ℕ × List L → Type 0 = HasLines number k.h k.c in
      let fw : Fits number k.s k.h k.c w = record { seen = seen.0; also_seen = seen.1; mine = f.mine; below = f.below; olds = All-append P v.olds (with_own u.number u.mine u.olds) f.olds (with_own-all P u.number u.mine u.olds (own_has number k.h k.c u.number u.mine g.mine g.below) g.olds); starts = f.starts; begun = f.begun } in
      let fz : Fits number k.s k.h k.c z = record { seen = (k.h, refl); also_seen = (k.h, refl); mine = refl; below = tt; olds = All-nil P; starts = λ e. absurd (cc); begun = λ e. absurd (cc) } in
      inr (record {
        s = k.s;
        h = k.h;
        c = k.c;
        placed = ⊎_elim
            (λ (x : IsHome start history enrolled number items views k.s k.h k.c).
            inl (x.0, x.1, x.2, x.3, x.4, each_set (λ _ (u : PassView L S). u.out ≡ None) vs q z refl (λ i y _ e. each_set (λ _ (u : PassView L S). u.out ≡ None) views p w in_v (λ i y _ e. x.5 i y e) i y e)))
            (λ (x : IsOut start history enrolled number items views k.h k.c).
            let here : x.1.0 ≢ p = λ e. let r : x.1.1 ≡ v = some-injective x.1.1 v (sym x.1.2 ∙ ap (λ j. get_elem? views j) e ∙ at) in let o = x.1.3 in let b : Some (k.h, k.c) ≡ None = sym o ∙ ap (λ (y : PassView L S). y.out) r ∙ in_v in absurd (cc) in
            let there : x.1.0 ≢ q = λ e. let r : x.1.1 ≡ u = some-injective x.1.1 u (sym x.1.2 ∙ ap (λ j. get_elem? views j) e ∙ was) in let o = x.1.3 in let b : Some (k.h, k.c) ≡ None = sym o ∙ ap (λ (y : PassView L S). y.out) r ∙ in_u in absurd (cc) in
            inr (
              x.0,
              (
                x.1.0,
                x.1.1,
                set_else vs q x.1.0 z there ∙ set_else views p x.1.0 w here ∙ x.1.2,
                x.1.3,
                x.1.4,
                λ i y n e. each_set (λ j (y : PassView L S). j ≢ x.1.0 → y.out ≡ None) vs q z (λ _. refl) (λ i y _ e. each_set (λ j (y : PassView L S). j ≢ x.1.0 → y.out ≡ None) views p w (λ _. in_v) (λ i y _ e n. x.1.5 i y n e) i y e) i y e n,
              ),
            ))
            k.placed;
        fits = each_set (λ _. Fits number k.s k.h k.c) vs q z fz (λ i y _ e. each_set (λ _. Fits number k.s k.h k.c) views p w fw (λ i y _ e. k.fits i y e) i y e);
        apart = λ j.
            let one = sum_by-set_at (claims j) views p v w at in
            let two = sum_by-set_at (claims j) vs q u z at' in
            let a = k.apart j in
            let more : claims j w ≡ claims j v + claims j u = (let s = sum_by-append (λ (e : ℕ × List L). is_at j e.0) v.olds (with_own u.number u.mine u.olds) in let t = sum_by-with_own j u.number u.mine u.olds in omega (arith, s, t)) in
            omega (arith, one, two, a, more);
        below = k.below;
      })
