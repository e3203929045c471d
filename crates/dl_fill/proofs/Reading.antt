-- Reading what attacks a literal, from a place on.
use Rattle.std.proofs.Common.{◌≡◌, ℕ, suc, zero, ◌+◌, ◌<◌, ◌&&◌, ◌||◌, Bool, true, false, Some, None, List, [], ◌∷◌, length, drop, subst, ap, refl, ◌∙◌, arith}
use Rattle.std.specs.Prelude.{slice_get}
use Rattle.std.specs.List.{list_all, list_any}
use Rattle.std.proofs.lemmas.Option.{slice_get_within, get_or_from_slice_get}
use Rattle.std.proofs.lemmas.List.Elements.{Contains-get_or}
use Rattle.dl_theory.specs.Lists.{attackers}
use Rattle.dl_graph.specs.Numbers.{NetLists, IsNumbered, no_literal, literal_at, attackers_row}
use Rattle.dl_fill.proofs.Links.{numbers_sound, number_inside, attacker_named}
use Rattle.dl_fill.proofs.Written.{contains_times}

module _ {X : Type 0} where
  drop_some : (xs : List X) (i : ℕ) (x : X) → slice_get xs i ≡ Some x → drop i xs ≡ x ∷ drop (suc i) xs
  drop_some [] i x e = absurd (omega (arith, slice_get_within [] i x e))
  drop_some (y ∷ ys) zero x e = ap (λ (z : X). z ∷ ys) (get_or_from_slice_get (y ∷ ys) 0 x x e)
  drop_some (y ∷ ys) (suc i) x e = drop_some ys i x e

  drop_none : (xs : List X) (i : ℕ) → slice_get xs i ≡ None → drop i xs ≡ []
  drop_none [] zero e = refl
  drop_none [] (suc i) e = refl
  drop_none (y ∷ ys) zero e = absurd cc
  drop_none (y ∷ ys) (suc i) e = drop_none ys i e

  module _ (p : X → Bool) (xs : List X) (i : ℕ) where
    pub all_ends : slice_get xs i ≡ None → list_all p (drop i xs) ≡ true
    all_ends e = ap (list_all p) (drop_none xs i e)

    pub any_ends : slice_get xs i ≡ None → list_any p (drop i xs) ≡ false
    any_ends e = ap (list_any p) (drop_none xs i e)

    pub all_goes : (x : X) → slice_get xs i ≡ Some x → p x ≡ true → list_all p (drop i xs) ≡ list_all p (drop (i + 1) xs)
    all_goes x e h =
        let n : suc i ≡ i + 1 = omega arith in
        ap (list_all p) (drop_some xs i x e) ∙ ap (λ (b : Bool). b && list_all p (drop (suc i) xs)) h ∙ ap (λ (m : ℕ). list_all p (drop m xs)) n

    pub any_goes : (x : X) → slice_get xs i ≡ Some x → p x ≡ false → list_any p (drop i xs) ≡ list_any p (drop (i + 1) xs)
    any_goes x e h =
        let n : suc i ≡ i + 1 = omega arith in
        ap (list_any p) (drop_some xs i x e) ∙ ap (λ (b : Bool). b || list_any p (drop (suc i) xs)) h ∙ ap (λ (m : ℕ). list_any p (drop m xs)) n

    pub all_stops : (x : X) → slice_get xs i ≡ Some x → p x ≡ false → list_all p (drop i xs) ≡ false
    all_stops x e h = ap (list_all p) (drop_some xs i x e) ∙ ap (λ (b : Bool). b && list_all p (drop (suc i) xs)) h

    pub any_stops : (x : X) → slice_get xs i ≡ Some x → p x ≡ true → list_any p (drop i xs) ≡ true
    any_stops x e h = ap (list_any p) (drop_some xs i x e) ∙ ap (λ (b : Bool). b || list_any p (drop (suc i) xs)) h

-- an attacker has a number
pub attacker_inside : (N : NetLists) → IsNumbered N → (q i x : ℕ) → q < length N.names → slice_get (attackers_row N (literal_at N q)) i ≡ Some x → x < length N.names
attacker_inside N numbered q i x lt e =
    let row : List ℕ = attackers_row N (literal_at N q) in
    let m = numbers_sound N numbered (attackers N.theory (literal_at N q)) x
    (contains_times x (attackers_row N (literal_at N q)) (i, slice_get_within (attackers_row N (literal_at N q)) i x e, get_or_from_slice_get (attackers_row N (literal_at N q)) i x x e)) in
    subst (λ (n : ℕ). n < length N.names) m.2
    (number_inside N numbered m.0 (attacker_named N numbered (literal_at N q) m.0 (Contains-get_or N.names q no_literal lt) m.1))
