-- Lemmas on the names of sessions.
use Rattle.std.proofs.Common.{◌≡◌, ◌∙◌, ℕ, List, [], ◌∷◌, ◌++◌, Bool, true, false, refl, sym, ap, subst, codes, Some, take, zero, suc}
use Rattle.std.specs.Prelude.{◌||◌, slice_get}
use Rattle.std.proofs.lemmas.Bool.Decides.{same_from_decides}
use Rattle.std.specs.Str.{bytes_eq}
use Rattle.std.proofs.lemmas.Slice.Eq.{bytes_eq-Decides}
use Rattle.std.proofs.lemmas.List.{append_cancel_right}
use Rattle.dl_io.proofs.Names.{bytes_eq-refl}
use Rattle.dl_words.specs.Names.{output_name, output_names, is_among, AreDistinct, AreApart}

pub same_name : (a b : List ℕ) → bytes_eq a b ≡ true → a ≡ b
same_name a b e = (bytes_eq-Decides a b).0 e

pub bytes_eq-sym : (a b : List ℕ) → bytes_eq a b ≡ bytes_eq b a
bytes_eq-sym a b = same_from_decides {P = a ≡ b} (bytes_eq a b) (bytes_eq b a) (bytes_eq-Decides a b) ((λ e. sym (same_name b a e)), λ e. (bytes_eq-Decides b a).1 (sym e))

pub outputs_eq : (a b : List ℕ) → bytes_eq (output_name a) (output_name b) ≡ bytes_eq a b
outputs_eq a b =
    same_from_decides {P = a ≡ b} (bytes_eq (output_name a) (output_name b)) (bytes_eq a b)
    ((λ e. append_cancel_right a b (codes ".out") (same_name (output_name a) (output_name b) e)), λ e. (bytes_eq-Decides (output_name a) (output_name b)).1 (ap output_name e))
    (bytes_eq-Decides a b)

pub among_outputs : (name : List ℕ) (names : List (List ℕ)) → is_among (output_name name) (output_names names) ≡ is_among name names
among_outputs name [] = refl
among_outputs name (other ∷ more) = λ i. outputs_eq other name i || among_outputs name more i

pub or_false : (b c : Bool) → (b || c) ≡ false → (b ≡ false) × (c ≡ false)
or_false true c h = absurd (cc)
or_false false c h = (refl, h)

pub or_right : (b c : Bool) → c ≡ true → (b || c) ≡ true
or_right true c h = refl
or_right false c h = h

pub or_left : (b c : Bool) → b ≡ true → (b || c) ≡ true
or_left true c h = refl
or_left false c h = absurd (cc)

pub first_among : (name : List ℕ) (more : List (List ℕ)) → is_among name (name ∷ more) ≡ true
first_among name more = or_left (bytes_eq name name) (is_among name more) (bytes_eq-refl name)

-- a name that stands at a place
pub among_at : (names : List (List ℕ)) (at : ℕ) (name : List ℕ) → slice_get names at ≡ Some name → is_among name names ≡ true
among_at [] at name e = absurd (cc)
among_at (other ∷ more) zero name e = let same : other ≡ name = cc in or_left (bytes_eq other name) (is_among name more) ((bytes_eq-Decides other name).1 same)
among_at (other ∷ more) (suc at) name e = or_right (bytes_eq other name) (is_among name more) (among_at more at name e)

-- it is not a name that does not stand there
pub apart_at : (names : List (List ℕ)) (at : ℕ) (name other : List ℕ) → is_among other names ≡ false → slice_get names at ≡ Some name → bytes_eq name other ≡ false
apart_at [] at name other none e = absurd (cc)
apart_at (first ∷ more) zero name other none e =
    let same : first ≡ name = cc in subst (λ (n : List ℕ). bytes_eq n other ≡ false) same (or_false (bytes_eq first other) (is_among other more) none).0
apart_at (first ∷ more) (suc at) name other none e = apart_at more at name other (or_false (bytes_eq first other) (is_among other more) none).1 e

-- the names before a place
pub take_next : {A : Type 0} (names : List A) (at : ℕ) (name : A) → slice_get names at ≡ Some name → take (suc at) names ≡ take at names ++ name ∷ []
take_next [] at name e = absurd (cc)
take_next (first ∷ more) zero name e = let same : first ≡ name = cc in ap (λ n. n ∷ []) same
take_next (first ∷ more) (suc at) name e = ap (λ l. first ∷ l) (take_next more at name e)

pub among_take : (names : List (List ℕ)) (at : ℕ) (name : List ℕ) → is_among name (take at names) ≡ true → is_among name names ≡ true
among_take names zero name e = absurd (cc)
among_take [] (suc at) name e = absurd (cc)
among_take (first ∷ more) (suc at) name e = by (bytes_eq first name) (among_take more at name) e
  where
    by : (b : Bool) → (is_among name (take at more) ≡ true → is_among name more ≡ true) → (b || is_among name (take at more)) ≡ true → (b || is_among name more) ≡ true
    by true later h = refl
    by false later h = later h

-- no name before a place is the one at it
pub distinct_at : (names : List (List ℕ)) (at : ℕ) (name : List ℕ) → AreDistinct names → slice_get names at ≡ Some name → is_among name (take at names) ≡ false
distinct_at [] at name d e = absurd (cc)
distinct_at (first ∷ more) zero name d e = refl
distinct_at (first ∷ more) (suc at) name d e =
    let other : bytes_eq first name ≡ false = bytes_eq-sym first name ∙ apart_at more at name first d.0 e in
    subst (λ (c : Bool). (c || is_among name (take at more)) ≡ false) (sym other) (distinct_at more at name d.1 e)

-- a name is no output
pub apart_from : (names others : List (List ℕ)) (name : List ℕ) → AreApart names others → is_among name names ≡ true → is_among name others ≡ false
apart_from [] others name apart e = absurd (cc)
apart_from (first ∷ more) others name apart e = by (bytes_eq first name) refl (apart_from more others name apart.1) e
  where
    by : (b : Bool) → bytes_eq first name ≡ b → (is_among name more ≡ true → is_among name others ≡ false) → (b || is_among name more) ≡ true → is_among name others ≡ false
    by true same later h = subst (λ (n : List ℕ). is_among n others ≡ false) (same_name first name same) apart.0
    by false other later h = later h
