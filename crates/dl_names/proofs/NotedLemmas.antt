-- Pairs that are found by what is noted of their atoms.
use Rattle.std.proofs.Common.{◌≡◌, ℕ, zero, suc, ◌+◌, ◌/◌, ◌%◌, ◌≤◌, Bool, true, false, not, cond, Option, None, Some, List, [], ◌∷◌, ◌++◌, length, map, sym, ap, ◌∙◌, refl, arith, position}
use Rattle.std.specs.Prelude.{◌==◌, All, nat_lt, slice_get, is_some}
use Rattle.std.specs.List.{AllByRecursion, position_or_len}
use Rattle.std.specs.List as keys
use Rattle.std.specs.Option.{option_map}
use Rattle.std.proofs.lemmas.Bool.{lt-ltb}
use Rattle.std.proofs.lemmas.Map.Keys.{IsDistinct-head, IsDistinct-tail}
use Rattle.std.proofs.lemmas.Option.{slice_get-map, slice_get_within}
use Rattle.dl_base.specs.Paths.{IsDistinct}
use Rattle.dl_base.proofs.Filters.{false_unless}
use Rattle.dl_lit.specs.declared.literal.Literal.{Literal}
use Rattle.dl_names.specs.declared.atom.Atom.{Atom}
use Rattle.dl_names.specs.Atoms.{first_of, pair_eq, pair_eq-Decides, atom_eq}
use Rattle.dl_names.specs.KeptAtoms.{Tells}
use Rattle.dl_names.specs.Pairs.{same_atom}
use Rattle.dl_names.proofs.AtomLemmas.{all_by_number, position_of_map}
use Rattle.dl_names.proofs.PairLemmas.{new_at, slice_get-append_left}

pub none_is : {A : Type 0} (o : Option A) → is_some o ≡ false → o ≡ None
none_is None e = refl
none_is (Some x) e = cc

-- ---- members that stand once

module _ {A : Type 0} (eq : A → A → Bool) (P : A → Bool) (apart : (x y : A) → P x ≡ true → P y ≡ true → eq x y ≡ true) where
  other_at : (x : A) (xs : List A) (k : ℕ) (y : A) → AllByRecursion (λ z. eq x z ≡ false) xs → slice_get xs k ≡ Some y → eq x y ≡ false
  other_at x [] k y h e = cc
  other_at x (z ∷ xs) zero y h e = let same : z ≡ y = cc in ap (eq x) (sym same) ∙ h.0
  other_at x (z ∷ xs) (suc k) y h e = other_at x xs k y h.1 e

  only_first : (xs : List A) (k : ℕ) (y : A) → keys.IsDistinct eq xs → slice_get xs k ≡ Some y → P y ≡ true → position_or_len P xs ≡ k
  only_first [] k y once e passes = cc
  only_first (x ∷ xs) zero y once e passes =
      let same : x ≡ y = cc in λ i. cond (not ((ap P same ∙ passes) i)) (1 + position_or_len P xs) 0
  only_first (x ∷ xs) (suc k) y once e passes =
      let fails : P x ≡ false = false_unless (P x) ((λ h. h), (λ h. h)) (λ h.
      let no : true ≡ false = sym (apart x y h passes) ∙ other_at x xs k y (IsDistinct-head eq x xs once) e in cc) in
      let next : 1 + k ≡ suc k = omega arith in
      (λ i. cond (not (fails i)) (1 + only_first xs k y (IsDistinct-tail eq x xs once) e passes i) 0) ∙ next

  -- a test that only equal members pass first passes at the one that passes
  only_place : (xs : List A) (k : ℕ) (y : A) → keys.IsDistinct eq xs → slice_get xs k ≡ Some y → P y ≡ true → position P xs ≡ Some k
  only_place xs k y once e passes =
      (λ i. cond (nat_lt (only_first xs k y once e passes i) (length xs)) (Some (only_first xs k y once e passes i)) None)
      ∙ ap (λ b. cond b (Some k) None) (lt-ltb k (length xs) (slice_get_within xs k y e))

-- ---- what a number tells

-- the pair stands where the number tells
pub told_place : (modes : List (List ℕ)) (q : Literal) (atoms : List Atom) (n : ℕ) → IsDistinct modes → All (λ a. a.mode ≤ length modes) atoms
    → keys.IsDistinct atom_eq atoms → q.mode ≡ None → Tells atoms q.atom n → Some (n / 2) ≡ position (same_atom q) (map (first_of modes) atoms)
told_place modes q atoms n distinct all once plain tells =
    let sought : Atom → Bool = λ a. pair_eq (0, q.atom) (a.mode, a.name) in
    sym (only_place atom_eq sought
    (λ x y hx hy.
    let ex = (pair_eq-Decides 0 x.mode q.atom x.name).0 hx in
    let ey = (pair_eq-Decides 0 y.mode q.atom y.name).0 hy in
    (pair_eq-Decides x.mode y.mode x.name y.name).1 (sym (ex.0) ∙ ey.0, sym (ex.1) ∙ ey.1))
    atoms (n / 2) tells.atom once tells.there ((pair_eq-Decides 0 tells.atom.mode q.atom tells.atom.name).1 (sym tells.plain, sym tells.named)))
    ∙ position_of_map sought (same_atom q) (first_of modes) atoms (all_by_number modes q 0 q.atom atoms distinct (omega arith) (sym plain) refl all)

-- and has the sign that it tells
pub told_sign : (modes : List (List ℕ)) (atoms : List Atom) (firsts : List Literal) (name : List ℕ) (n : ℕ) → map (first_of modes) atoms ≡ firsts
    → Tells atoms name n → (q : Literal) × (slice_get firsts (n / 2) ≡ Some q) × ((n % 2 == 0) ≡ q.positive)
told_sign modes atoms firsts name n is tells = (
  first_of modes tells.atom,
  ap (λ ls. slice_get ls (n / 2)) (sym is) ∙ slice_get-map (first_of modes) atoms (n / 2) ∙ ap (option_map (first_of modes)) tells.there,
  sym tells.sign,
)

-- more pairs behind the others leave what is told
pub told_more : (atoms more : List Atom) (name : List ℕ) (n : ℕ) → Tells atoms name n → Tells (atoms ++ more) name n
told_more atoms more name n tells = record {
  atom = tells.atom;
  there = slice_get-append_left atoms more (n / 2) (slice_get_within atoms (n / 2) tells.atom tells.there) ∙ tells.there;
  plain = tells.plain;
  named = tells.named;
  sign = tells.sign;
}

-- and a new one is told by its place and its sign
pub told_new : (atoms : List Atom) (a : Atom) (name : List ℕ) (n : ℕ) → n / 2 ≡ length atoms → a.mode ≡ 0 → a.name ≡ name
    → (n % 2 == 0) ≡ a.positive → Tells (atoms ++ a ∷ []) name n
told_new atoms a name n place plain named sign = record {
  atom = a;
  there = ap (slice_get (atoms ++ a ∷ [])) place ∙ new_at atoms a [];
  plain = plain;
  named = named;
  sign = sym sign;
}

pub none_twice : {A : Type 0} (eq : A → A → Bool) → keys.IsDistinct eq []
unfolding keys.IsDistinct
none_twice eq = tt
