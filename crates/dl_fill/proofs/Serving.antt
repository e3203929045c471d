-- What nodes ask, after each node of a list was served.
use Rattle.std.proofs.Common.{◌≡◌, ◌≢◌, ℕ, ◌+◌, ◌*◌, ◌/◌, ◌%◌, ◌<◌, ◌||◌, Bool, true, false, cond, List, [], ◌∷◌, ◌++◌, length, get_or, take, inl, inr, ◌⊎◌, sym, subst, ap, refl, ◌∙◌, arith, length-set, true≢false}
use Rattle.std.specs.List.{fold, flat_map}
use Rattle.std.proofs.lemmas.Bool.{cases_eq, eq-eqb, ne_eqb}
use Rattle.std.proofs.lemmas.List.{get_or-set_same, get_or-set_other, take_more, append-nil}
use Rattle.std.proofs.lemmas.List.Sums.{fold_more, fold-append}
use Rattle.std.proofs.lemmas.List.Concat.{flat_map-cons}
use Rattle.std.proofs.lemmas.Grind.{flat_map-append}
use Rattle.dl_graph.specs.Counting.{times}
use Rattle.dl_graph.specs.Numbers.{NetLists, next}
use Rattle.dl_fill.specs.declared.wire.Wire.{Wire}
use Rattle.dl_fill.specs.declared.needs.Need.{Need}
use Rattle.dl_fill.specs.declared.needs.Need.TheVariants.{Nothing, Each, One}
use Rattle.dl_fill.specs.Wires.{through, edges_by}
use Rattle.dl_fill.specs.Pruned.{Asking, need_at, asks, answered, serve}
use Rattle.dl_fill.proofs.Times.{times_cons_same, times_cons_other}
use Rattle.dl_fill.proofs.Hits.{made_at, length-made}

pub length-serve : (a : Asking) (y : ℕ) → length (serve a y).needs ≡ length a.needs
length-serve a y = length-set _ _ _

pub length-serves : (ys : List ℕ) (a : Asking) → length (fold serve a ys).needs ≡ length a.needs
length-serves [] a = refl
length-serves (y ∷ ys) a = length-serves ys (serve a y) ∙ length-serve a y

pub asks_none : (n : Need) → asks n ≡ false → n ≡ Nothing
asks_none Nothing e = refl
asks_none Each e = absurd (true≢false e)
asks_none One e = absurd (true≢false e)

answered_again : (n : Need) → answered (answered n) ≡ answered n
answered_again Nothing = refl
answered_again Each = refl
answered_again One = refl

answered_asks : (n : Need) → asks (answered n) ≡ false → (asks n ≡ false) ⊎ (n ≡ One)
answered_asks Nothing e = inl refl
answered_asks Each e = absurd (true≢false e)
answered_asks One e = inr refl

neither : (a b : Bool) → a || b ≡ false → (a ≡ false) × (b ≡ false)
neither false b e = (refl, e)
neither true b e = absurd (true≢false e)

pub record IsServed (ys : List ℕ) (old new : Asking) : Type 0 where
  pub served : (y : ℕ) → 0 < times y ys → need_at new.needs y ≡ answered (need_at old.needs y)
  pub others : (y : ℕ) → times y ys ≡ 0 → need_at new.needs y ≡ need_at old.needs y
  pub before : new.asked ≡ false → old.asked ≡ false
  pub unasked : new.asked ≡ false → (y : ℕ) → 0 < times y ys → asks (need_at old.needs y) ≡ false

pub serves : (ys : List ℕ) (a : Asking) → ((y : ℕ) → 0 < times y ys → y < length a.needs) → IsServed ys a (fold serve a ys)
serves [] a inside = record { served = λ y m. absurd (omega (arith, m)); others = λ y e. refl; before = λ e. e; unasked = λ e y m. absurd (omega (arith, m)) }
serves (z ∷ zs) a inside =
    let here : z < length a.needs = inside z (omega (arith, times_cons_same z z zs refl)) in
    let rest = serves zs (serve a z) (λ y m. omega (arith, length-serve a z, inside y (omega (arith, m)))) in
    let this : need_at (serve a z).needs z ≡ answered (need_at a.needs z) = get_or-set_same a.needs z (answered (need_at a.needs z)) Nothing here in
    let other : (y : ℕ) → y ≢ z → need_at (serve a z).needs y ≡ need_at a.needs y = λ y n. get_or-set_other a.needs z y (answered (need_at a.needs z)) Nothing n in
    record {
      served = λ y m. elim (cases_eq y z) [
        | inl same ↦
            subst (λ (v : ℕ). need_at (fold serve (serve a z) zs).needs v ≡ answered (need_at a.needs v)) (sym same)
            (elim (cases_eq (times z zs) 0) [
              | inl none ↦ rest.others z none ∙ this
              | inr some ↦ rest.served z (omega arith) ∙ ap answered this ∙ answered_again (need_at a.needs z)
            ])
        | inr apart ↦ rest.served y (omega (arith, m, times_cons_other y z zs apart)) ∙ ap answered (other y apart)
      ];
      others = λ y e. elim (cases_eq y z) [
        | inl same ↦ absurd (omega (arith, e, times_cons_same y z zs same))
        | inr apart ↦ rest.others y (omega (arith, e, times_cons_other y z zs apart)) ∙ other y apart
      ];
      before = λ e. (neither a.asked (asks (need_at a.needs z)) (rest.before e)).0;
      unasked = λ e y m. elim (cases_eq y z) [
        | inl same ↦ ap (λ (v : ℕ). asks (need_at a.needs v)) same ∙ (neither a.asked (asks (need_at a.needs z)) (rest.before e)).1
        | inr apart ↦ ap asks (sym (other y apart)) ∙ rest.unasked e y (omega (arith, m, times_cons_other y z zs apart))
      ];
    }

-- one wire, place by place, and all wires of a node
pub serve_step : (s : ℕ) (a : Asking) (to : ℕ) (xs : List ℕ) (i : ℕ) → i < length xs
    → fold serve a (take (i + 1) (through s to xs)) ≡ serve (fold serve a (take i (through s to xs))) (get_or xs i 0 * s + to)
serve_step s a to xs i lt =
    fold_more serve a (through s to xs) i 0 (omega (arith, length-made s to xs))
    ∙ ap (serve (fold serve a (take i (through s to xs)))) (made_at s to xs i lt)

module _ (N : NetLists) (s x : ℕ) where
  asks_step : (start : Asking) (wires : List Wire) (i : ℕ) (d : Wire) → i < length wires
      → fold serve start (flat_map (edges_by N s x) (take (i + 1) wires)) ≡ fold serve (fold serve start (flat_map (edges_by N s x) (take i wires))) (edges_by N s x (get_or wires i d))
  asks_step start wires i d lt =
      ap (fold serve start)
      (ap (flat_map (edges_by N s x)) (take_more wires i d lt) ∙ flat_map-append (edges_by N s x) (take i wires) (get_or wires i d ∷ [])
      ∙ ap (λ (ys : List ℕ). flat_map (edges_by N s x) (take i wires) ++ ys) (flat_map-cons (edges_by N s x) (get_or wires i d) [] ∙ append-nil (edges_by N s x (get_or wires i d))))
      ∙ fold-append serve start (flat_map (edges_by N s x) (take i wires)) (edges_by N s x (get_or wires i d))

  pub ask_serves : (start : Asking) (wires : List Wire) (i : ℕ) (d : Wire) → i < length wires → (get_or wires i d).from ≡ x % s
      → fold serve start (flat_map (edges_by N s x) (take (i + 1) wires))
      ≡ fold serve (fold serve start (flat_map (edges_by N s x) (take i wires))) (through s (get_or wires i d).to (next N (get_or wires i d).link (x / s)))
  ask_serves start wires i d lt e =
      asks_step start wires i d lt
      ∙ ap (λ (b : Bool). fold serve (fold serve start (flat_map (edges_by N s x) (take i wires))) (cond b (through s (get_or wires i d).to (next N (get_or wires i d).link (x / s))) []))
      (eq-eqb (get_or wires i d).from (x % s) e)

  pub ask_skips : (start : Asking) (wires : List Wire) (i : ℕ) (d : Wire) → i < length wires → ((get_or wires i d).from ≡ x % s → ⊥)
      → fold serve start (flat_map (edges_by N s x) (take (i + 1) wires)) ≡ fold serve start (flat_map (edges_by N s x) (take i wires))
  ask_skips start wires i d lt n =
      asks_step start wires i d lt
      ∙ ap (λ (b : Bool). fold serve (fold serve start (flat_map (edges_by N s x) (take i wires))) (cond b (through s (get_or wires i d).to (next N (get_or wires i d).link (x / s))) []))
      (ne_eqb (get_or wires i d).from (x % s) n)
