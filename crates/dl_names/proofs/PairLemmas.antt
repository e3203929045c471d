-- Literals that are kept by their modes and atoms, each beside its complement.
use Rattle.std.proofs.Common.{◌≡◌, ◌⊎◌, ℕ, zero, suc, ◌+◌, ◌*◌, ◌/◌, ◌<◌, Bool, true, false, not, cond, Option, None, Some, List, [], ◌∷◌, ◌++◌, length, get_or, refl, sym, ap, subst, ◌∙◌, arith, inl, inr, position}
use Rattle.std.specs.Prelude.{Contains, nat_lt, slice_get}
use Rattle.std.specs.Bool.{beq}
use Rattle.std.specs.List.{list_any, position_or_len}
use Rattle.std.specs.Option.{option_map}
use Rattle.std.specs.Cmp.{booleans_Decides}
use Rattle.std.proofs.lemmas.Bool.{cond-true, lt-ltb, or_left, or_right, or_cases}
use Rattle.std.proofs.lemmas.Option.{get_or_from_slice_get, slice_get_within, slice_get_past, slice_get_cases}
use Rattle.std.proofs.lemmas.List.Sums.{position_or_len_is}
use Rattle.std.proofs.lemmas.List.Quantifiers.{position-Some}
use Rattle.std.proofs.lemmas.List.Elements.{Contains-append_right}
use Rattle.dl_base.specs.Paths.{IsDistinct}
use Rattle.dl_base.proofs.Filters.{false_unless}
use Rattle.dl_lit.specs.declared.literal.Literal.{Literal}
use Rattle.dl_lit.specs.Literal.{literal_eq, complement}
use Rattle.dl_lit.specs.Order.{literal_eq-Decides}
use Rattle.dl_names.specs.Paired.{IsPaired}
use Rattle.dl_names.specs.Pairs.{same_atom, same_atom-Decides, pairs_of}
use Rattle.dl_names.proofs.NameLemmas.{found_at}

-- ---- signs

differing : (a b : Bool) → beq a b ≡ false → not a ≡ b
differing true true e = cc
differing true false e = refl
differing false true e = refl
differing false false e = cc

sign_cases : (a b : Bool) → (a ≡ b) ⊎ (not a ≡ b)
sign_cases true true = inl refl
sign_cases true false = inr refl
sign_cases false true = inr refl
sign_cases false false = inl refl

one_of : (q r : Literal) → same_atom q r ≡ true → r.positive ≡ q.positive → r ≡ q
one_of q r h e = let p = (same_atom-Decides q r).0 h in λ i. record { mode = sym p.0 i; atom = sym p.1 i; positive = e i }

other_of : (q r : Literal) → same_atom q r ≡ true → not r.positive ≡ q.positive → complement r ≡ q
other_of q r h e = let p = (same_atom-Decides q r).0 h in λ i. record { mode = sym p.0 i; atom = sym p.1 i; positive = e i }

-- ---- the list of pairs

pub pairs_len : (ps : List Literal) → length (pairs_of ps) ≡ 2 * length ps
pairs_len [] = refl
pairs_len (p ∷ ps) = omega (arith, pairs_len ps)

pub pairs_paired : (ps : List Literal) → IsPaired (pairs_of ps)
pairs_paired [] = tt
pairs_paired (p ∷ ps) = (refl, pairs_paired ps)

pairs_push : (ps : List Literal) (p : Literal) → pairs_of (ps ++ p ∷ []) ≡ pairs_of ps ++ p ∷ complement p ∷ []
pairs_push [] p = refl
pairs_push (v ∷ ps) p = ap (λ ls. v ∷ complement v ∷ ls) (pairs_push ps p)

-- the first of a pair stands at twice its place, and the second behind it
pub first_at : (ps : List Literal) (n k : ℕ) → n ≡ 2 * k → slice_get (pairs_of ps) n ≡ slice_get ps k
first_at [] n k e = refl
first_at (p ∷ ps) zero zero e = refl
first_at (p ∷ ps) zero (suc k) e = absurd (omega (arith, e))
first_at (p ∷ ps) (suc zero) k e = absurd (omega (arith, e))
first_at (p ∷ ps) (suc (suc n)) zero e = absurd (omega (arith, e))
first_at (p ∷ ps) (suc (suc n)) (suc k) e = first_at ps n k (omega (arith, e))

pub second_at : (ps : List Literal) (n k : ℕ) → n ≡ 2 * k + 1 → slice_get (pairs_of ps) n ≡ option_map complement (slice_get ps k)
second_at [] n k e = refl
second_at (p ∷ ps) zero k e = absurd (omega (arith, e))
second_at (p ∷ ps) (suc zero) zero e = refl
second_at (p ∷ ps) (suc zero) (suc k) e = absurd (omega (arith, e))
second_at (p ∷ ps) (suc (suc n)) zero e = absurd (omega (arith, e))
second_at (p ∷ ps) (suc (suc n)) (suc k) e = second_at ps n k (omega (arith, e))

-- a number whose half is no place is past the pairs
pub past_pairs : (ps : List Literal) (n : ℕ) → None ≡ slice_get ps (n / 2) → None ≡ slice_get (pairs_of ps) n
past_pairs ps n e =
    elim (slice_get_cases ps (n / 2)).1 [
      | inl there ↦ let no : None ≡ Some there.0 = e ∙ there.2 in cc
      | inr past ↦ sym (slice_get_past (pairs_of ps) n (omega (arith, past.0, pairs_len ps)))
    ]

-- ---- look-ups

has_at : (ps : List Literal) (q : Literal) (i : ℕ) → i < length (pairs_of ps) → get_or (pairs_of ps) i q ≡ q
    → list_any (same_atom q) ps ≡ true
has_at [] q i lt e = absurd (omega (arith, lt))
has_at (p ∷ ps) q zero lt e =
    or_left (same_atom q p) (list_any (same_atom q) ps)
    ((same_atom-Decides q p).1 (sym (ap (λ r. r.mode) e), sym (ap (λ r. r.atom) e)))
has_at (p ∷ ps) q (suc zero) lt e =
    or_left (same_atom q p) (list_any (same_atom q) ps)
    ((same_atom-Decides q p).1 (sym (ap (λ r. r.mode) e), sym (ap (λ r. r.atom) e)))
has_at (p ∷ ps) q (suc (suc i)) lt e =
    or_right (same_atom q p) (list_any (same_atom q) ps) (has_at ps q i (omega (arith, lt)) e)

-- a literal that is not found is in no pair
pub pairs_absent : (ps : List Literal) (q : Literal) → list_any (same_atom q) ps ≡ false → ¬ Contains (pairs_of ps) q
pairs_absent ps q none m = let yes = has_at ps q m.0 m.1 m.2 in cc

pub pairs_any : (ps : List Literal) (q : Literal) → list_any (same_atom q) ps ≡ true → Contains (pairs_of ps) q
pairs_any [] q h = cc
pairs_any (p ∷ ps) q h =
    elim (or_cases (same_atom q p) (list_any (same_atom q) ps) h) [
      | inl same ↦ elim (sign_cases p.positive q.positive) [
        | inl e ↦ (0, omega arith, one_of q p same e)
        | inr e ↦ (1, omega arith, other_of q p same e)
      ]
      | inr more ↦ Contains-append_right (p ∷ complement p ∷ []) (pairs_of ps) q (pairs_any ps q more)
    ]

pub nowhere : (ls : List Literal) (q : Literal) (o : Option ℕ) → o ≡ position (literal_eq q) ls → (¬ Contains ls q) → None ≡ position (literal_eq q) ls
nowhere ls q None e none = e
nowhere ls q (Some n) e none = let f = found_at ls q n (sym e) in absurd (none (n, f.0, f.1 q))

-- among distinct literals the one at a number has that number
pub position_is : (ls : List Literal) (n : ℕ) (q : Literal) → IsDistinct ls → slice_get ls n ≡ Some q → position (literal_eq q) ls ≡ Some n
position_is ls n q distinct at =
    let within : n < length ls = slice_get_within ls n q at in
    let here : get_or ls n q ≡ q = get_or_from_slice_get ls n q q at in
    let is : position_or_len (literal_eq q) ls ≡ n =
    position_or_len_is (literal_eq q) ls n q (omega (arith, within))
    (λ j before. false_unless (literal_eq q (get_or ls j q)) (literal_eq-Decides q (get_or ls j q))
    (λ same. distinct j n q before within (sym same ∙ sym here)))
    (λ _. (literal_eq-Decides q (get_or ls n q)).1 (sym here)) in
    ap (λ k. cond (nat_lt k (length ls)) (Some k) None) is ∙ cond-true (nat_lt n (length ls)) (Some n) None (lt-ltb n (length ls) within)

-- what a look-up by mode and atom finds
found_atom : (ps : List Literal) (q : Literal) (k : ℕ) (p : Literal) → Some k ≡ position (same_atom q) ps → slice_get ps k ≡ Some p
    → same_atom q p ≡ true
found_atom ps q k p e at =
    subst (λ (v : Literal). same_atom q v ≡ true) (get_or_from_slice_get ps k p p at)
    (position-Some (same_atom q) ps k p (sym e)).1

pub found_first : (ps : List Literal) (q : Literal) (k : ℕ) (p : Literal) → IsDistinct (pairs_of ps) → Some k ≡ position (same_atom q) ps
    → slice_get ps k ≡ Some p → beq p.positive q.positive ≡ true → Some (2 * k) ≡ position (literal_eq q) (pairs_of ps)
found_first ps q k p distinct e at same =
    sym (position_is (pairs_of ps) (2 * k) q distinct
    (first_at ps (2 * k) k refl ∙ at
    ∙ ap Some (one_of q p (found_atom ps q k p e at) ((booleans_Decides p.positive q.positive).0 same))))

pub found_second : (ps : List Literal) (q : Literal) (k : ℕ) (p : Literal) → IsDistinct (pairs_of ps) → Some k ≡ position (same_atom q) ps
    → slice_get ps k ≡ Some p → beq p.positive q.positive ≡ false → Some (2 * k + 1) ≡ position (literal_eq q) (pairs_of ps)
found_second ps q k p distinct e at differs =
    sym (position_is (pairs_of ps) (2 * k + 1) q distinct
    (second_at ps (2 * k + 1) k refl ∙ ap (option_map complement) at
    ∙ ap Some (other_of q p (found_atom ps q k p e at) (differing p.positive q.positive differs))))

-- ---- a new pair

pub added_pair : (qs qs' : List Literal) (q : Literal) → qs' ≡ qs ++ q ∷ [] → pairs_of qs' ≡ pairs_of qs ++ q ∷ complement q ∷ []
added_pair qs qs' q e = ap pairs_of e ∙ pairs_push qs q

-- what is added to a list stands at its old length
pub new_at : {A : Type 0} (xs : List A) (x : A) (more : List A) → slice_get (xs ++ x ∷ more) (length xs) ≡ Some x
new_at [] x more = refl
new_at (y ∷ xs) x more = new_at xs x more

pub slice_get-append_left : {X : Type 0} (xs ys : List X) (i : ℕ) → i < length xs → slice_get (xs ++ ys) i ≡ slice_get xs i
slice_get-append_left [] ys i lt = absurd (omega (arith, lt))
slice_get-append_left (x ∷ xs) ys zero lt = refl
slice_get-append_left (x ∷ xs) ys (suc i) lt = slice_get-append_left xs ys i (omega (arith, lt))

-- a literal that joins gets the first number that was free
pub numbered : (new ls : List Literal) (q : Literal) (n : ℕ) → IsDistinct new → new ≡ ls ++ q ∷ complement q ∷ [] → n ≡ length ls
    → position (literal_eq q) new ≡ Some n
numbered new ls q n distinct is first =
    position_is new n q distinct (ap (slice_get new) first ∙ ap (λ ks. slice_get ks (length ls)) is ∙ new_at ls q (complement q ∷ []))
