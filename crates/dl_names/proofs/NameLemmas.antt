-- Literals and their numbers.
use Rattle.std.proofs.Common.{◌≡◌, ◌≢◌, ◌⊎◌, ℕ, zero, suc, ◌+◌, ◌%◌, ◌<◌, Bool, true, false, not, Some, Result, Ok, Err, List, [], ◌∷◌, ◌++◌, length, get_or, refl, sym, ap, subst, ◌∙◌, arith, inl, inr, position}
use Rattle.std.specs.Prelude.{Contains, OnOk, OnErr, if◌then◌else◌}
use Rattle.std.specs.Bool.{Decides}
use Rattle.std.specs.List.{list_any}
use Rattle.std.proofs.lemmas.List.{get_or_default, append_assoc, append-nil}
use Rattle.std.proofs.lemmas.List.Sums.{position_or_len_is}
use Rattle.std.proofs.lemmas.List.Quantifiers.{position-Some}
use Rattle.std.proofs.lemmas.List.Elements.{All-nil, All-push, All-weaker, Contains-append_left, Contains-append_right, Contains-append_cases, All-append}
use Rattle.std.proofs.lemmas.Map.Made.{is_member-Decides}
use Rattle.dl_base.specs.Paths.{IsDistinct}
use Rattle.dl_base.proofs.Distinct.{distinct_push}
use Rattle.dl_base.proofs.Filters.{false_unless}
use Rattle.dl_base.proofs.Members.{only}
use Rattle.dl_lit.specs.declared.literal.Literal.{Literal}
use Rattle.dl_lit.specs.Literal.{literal_eq, complement}
use Rattle.dl_lit.specs.Names.{with_name, with_both}
use Rattle.dl_lit.specs.Order.{literal_eq-Decides}
use Rattle.dl_lit.proofs.NamesLemmas.{with_name-new}
use Rattle.dl_names.specs.Paired.{flip, IsPaired, IsNear, Grows, number_in}

-- ---- complements

not_twice : (b : Bool) → not (not b) ≡ b
not_twice true = refl
not_twice false = refl

pub complement_twice : (q : Literal) → complement (complement q) ≡ q
complement_twice q = λ i. record q { positive = not_twice q.positive i }

not_same : (b : Bool) → not b ≢ b
not_same true e = cc
not_same false e = cc

pub complement_differs : (q : Literal) → complement q ≢ q
complement_differs q e = not_same q.positive (ap (λ x. x.positive) e)

closed_at : (ls : List Literal) → IsPaired ls → (q : Literal) (i : ℕ) → i < length ls → get_or ls i q ≡ q → Contains ls (complement q)
closed_at [] h q i lt e = absurd (omega (arith, lt))
closed_at (x ∷ []) h q i lt e = absurd h
closed_at (x ∷ y ∷ ls) h q zero lt e = (1, omega arith, h.0 ∙ ap complement e)
closed_at (x ∷ y ∷ ls) h q (suc zero) lt e = (0, omega arith, sym (complement_twice x) ∙ ap complement (sym h.0 ∙ e))
closed_at (x ∷ y ∷ ls) h q (suc (suc i)) lt e =
    let m = closed_at ls h.1 q i (omega (arith, lt)) e in Contains-append_right (x ∷ y ∷ []) ls (complement q) m

-- with a literal its complement is there
pub paired_closed : (ls : List Literal) → IsPaired ls → (q : Literal) → Contains ls q → Contains ls (complement q)
paired_closed ls h q m = closed_at ls h q m.0 m.1 m.2

pub paired_push : (ls : List Literal) (q : Literal) → IsPaired ls → IsPaired (ls ++ q ∷ complement q ∷ [])
paired_push [] q h = (refl, tt)
paired_push (x ∷ []) q h = absurd h
paired_push (x ∷ y ∷ ls) q h = (h.0, paired_push ls q h.1)

pub flip_even : (k : ℕ) → k % 2 ≡ 0 → flip k ≡ k + 1
flip_even zero e = refl
flip_even (suc zero) e = absurd (omega (arith, e))
flip_even (suc (suc k)) e = omega (arith, flip_even k (omega (arith, e)))

pub flip_odd : (k : ℕ) → k % 2 ≢ 0 → flip k + 1 ≡ k
flip_odd zero e = absurd (e refl)
flip_odd (suc zero) e = refl
flip_odd (suc (suc k)) e = omega (arith, flip_odd k (λ z. e (omega (arith, z))))

pub paired_at : (ls : List Literal) → IsPaired ls → (k : ℕ) (d : Literal) → k < length ls
    → (flip k < length ls) × (get_or ls (flip k) d ≡ complement (get_or ls k d))
paired_at [] h k d lt = absurd (omega (arith, lt))
paired_at (x ∷ []) h k d lt = absurd h
paired_at (x ∷ y ∷ ls) h zero d lt = (omega arith, h.0)
paired_at (x ∷ y ∷ ls) h (suc zero) d lt = (omega arith, sym (complement_twice x) ∙ ap complement (sym h.0))
paired_at (x ∷ y ∷ ls) h (suc (suc k)) d lt =
    let r = paired_at ls h.1 k d (omega (arith, lt)) in (omega (arith, r.0), r.1)

-- ---- numbers

pub number_at : (ls : List Literal) (k : ℕ) (d : Literal) → IsDistinct ls → k < length ls → number_in ls (get_or ls k d) ≡ k
number_at ls k d distinct within =
    let q : Literal = get_or ls k d in
    position_or_len_is (λ x. literal_eq x q) ls k d (omega (arith, within))
    (λ j before. false_unless (literal_eq (get_or ls j d) q) (literal_eq-Decides (get_or ls j d) q) (λ same. distinct j k d before within same))
    (λ _. (literal_eq-Decides q q).1 refl)

pub found_at : (ls : List Literal) (q : Literal) (n : ℕ) → position (literal_eq q) ls ≡ Some n → (n < length ls) × ((d : Literal) → get_or ls n d ≡ q)
found_at ls q n e =
    let p = position-Some (literal_eq q) ls n q e in
    let there : get_or ls n q ≡ q = sym ((literal_eq-Decides q (get_or ls n q)).0 p.1) in
    (p.0, λ d. get_or_default ls n d q p.0 ∙ there)

pub number_found : (ls : List Literal) (q : Literal) (n : ℕ) → IsDistinct ls → position (literal_eq q) ls ≡ Some n → number_in ls q ≡ n
number_found ls q n distinct e =
    let at = found_at ls q n e in
    ap (number_in ls) (sym (at.1 q)) ∙ number_at ls n q distinct at.0

pub number_within : (ls : List Literal) (q : Literal) → IsDistinct ls → Contains ls q → (number_in ls q < length ls) × ((d : Literal) → get_or ls (number_in ls q) d ≡ q)
number_within ls q distinct m =
    let is : number_in ls q ≡ m.0 = ap (number_in ls) (sym m.2) ∙ number_at ls m.0 q distinct m.1 in
    (omega (arith, is, m.1), λ d. ap (λ k. get_or ls k d) is ∙ get_or_default ls m.0 d q m.1 ∙ m.2)

-- ---- growth

pub Grows-none : (P : Literal → Type 0) (ls : List Literal) → Grows P ls ls
Grows-none P ls = record { more = []; is = sym (append-nil ls); only = All-nil P }

pub Grows-trans : (P : Literal → Type 0) (a b c : List Literal) → Grows P a b → Grows P b c → Grows P a c
Grows-trans P a b c h k = record {
  more = h.more ++ k.more;
  is = k.is ∙ ap (λ ls. ls ++ k.more) h.is ∙ append_assoc a h.more k.more;
  only = All-append P h.more k.more h.only k.only;
}

pub Grows-weaker : (P Q : Literal → Type 0) (a b : List Literal) → ((q : Literal) → P q → Q q) → Grows P a b → Grows Q a b
Grows-weaker P Q a b f h = record { more = h.more; is = h.is; only = All-weaker P Q f h.more h.only }

pub Grows-keeps : (P : Literal → Type 0) (a b : List Literal) (q : Literal) → Grows P a b → Contains a q → Contains b q
Grows-keeps P a b q h m = subst (λ (ls : List Literal). Contains ls q) (sym h.is) (Contains-append_left a h.more q m)

choose : (ls : List Literal) (q : Literal) (b : Bool) → Decides b (Contains ls q)
    → (Contains ls q × ((if b then ls else ls ++ q ∷ []) ≡ ls)) ⊎ ((¬ Contains ls q) × ((if b then ls else ls ++ q ∷ []) ≡ ls ++ q ∷ []))
choose ls q true d = inl (d.0 refl, refl)
choose ls q false d = inr (λ m. let yes = d.1 m in cc, refl)

name_cases : (ls : List Literal) (q : Literal)
    → (Contains ls q × (with_name ls q ≡ ls)) ⊎ ((¬ Contains ls q) × (with_name ls q ≡ ls ++ q ∷ []))
name_cases ls q = choose ls q (list_any (literal_eq q) ls) (is_member-Decides literal_eq-Decides ls q)

with_name-old : (ls : List Literal) (q : Literal) → Contains ls q → with_name ls q ≡ ls
with_name-old ls q there =
    elim (name_cases ls q) [
      | inl old ↦ old.1
      | inr new ↦ absurd (new.0 there)
    ]

-- with a literal its complement is new
complement_new : (ls : List Literal) (q : Literal) → IsPaired ls → ¬ Contains ls q → ¬ Contains (ls ++ q ∷ []) (complement q)
complement_new ls q paired none there =
    elim (Contains-append_cases ls (q ∷ []) (complement q) there) [
      | inl before ↦ none (subst (Contains ls) (complement_twice q) (paired_closed ls paired (complement q) before))
      | inr one ↦ complement_differs q (only q (complement q) one)
    ]

-- names that have the literal stay as they are
pub both_old : (ls : List Literal) (q : Literal) → IsPaired ls → Contains ls q → with_both ls q ≡ ls
both_old ls q paired there =
    ap (λ ks. with_name ks (complement q)) (with_name-old ls q there) ∙ with_name-old ls (complement q) (paired_closed ls paired q there)

-- a new literal and its complement go last
pub both_new : (ls : List Literal) (q : Literal) → IsPaired ls → ¬ Contains ls q → with_both ls q ≡ ls ++ q ∷ complement q ∷ []
both_new ls q paired none =
    ap (λ ks. with_name ks (complement q)) (with_name-new ls q none)
    ∙ with_name-new (ls ++ q ∷ []) (complement q) (complement_new ls q paired none)
    ∙ append_assoc ls (q ∷ []) (complement q ∷ [])

pub both_distinct : (ls : List Literal) (q : Literal) → IsPaired ls → IsDistinct ls → ¬ Contains ls q → IsDistinct (ls ++ q ∷ complement q ∷ [])
both_distinct ls q paired distinct none =
    subst (λ (ks : List Literal). IsDistinct ks) (append_assoc ls (q ∷ []) (complement q ∷ []))
    (distinct_push (ls ++ q ∷ []) (complement q) (distinct_push ls q distinct none) (complement_new ls q paired none))

pub both_grows : (ls : List Literal) (q : Literal) → IsPaired ls → Grows (IsNear (q ∷ [])) ls (with_both ls q)
both_grows ls q h =
    elim (name_cases ls q) [
      | inl old ↦ subst (Grows (IsNear (q ∷ [])) ls) (sym (both_old ls q h old.0)) (Grows-none (IsNear (q ∷ [])) ls)
      | inr new ↦ record {
        more = q ∷ complement q ∷ [];
        is = both_new ls q h new.0;
        only = All-push (IsNear (q ∷ [])) (q ∷ []) (complement q)
            (All-push (IsNear (q ∷ [])) [] q (All-nil (IsNear (q ∷ []))) (inl (0, omega arith, refl)))
            (inr (0, omega arith, sym (complement_twice q)));
      }
    ]

-- what a call that adds both or neither leaves
pub by_result : {X : Type 0} {E : Type 0} (r : Result X E) (P : List Literal → Type 0) (old new with' : List Literal) → OnOk r (new ≡ with') → OnErr r (new ≡ old)
    → P with' → P old → P new
by_result (Ok x) P old new with' ok err there kept = subst P (sym ok) there
by_result (Err e) P old new with' ok err there kept = subst P (sym err) kept

-- what holds whatever a call returns
pub ok_from : {X : Type 0} {E : Type 0} (r : Result X E) (P : Type 0) → P → OnOk r P
ok_from (Ok x) P p = p
ok_from (Err e) P p = tt

pub near_head : (q : Literal) (qs : List Literal) (r : Literal) → IsNear (q ∷ []) r → IsNear (q ∷ qs) r
near_head q qs r (inl m) = inl (Contains-append_left (q ∷ []) qs r m)
near_head q qs r (inr m) = inr (Contains-append_left (q ∷ []) qs (complement r) m)

pub near_tail : (q : Literal) (qs : List Literal) (r : Literal) → IsNear qs r → IsNear (q ∷ qs) r
near_tail q qs r (inl m) = inl (Contains-append_right (q ∷ []) qs r m)
near_tail q qs r (inr m) = inr (Contains-append_right (q ∷ []) qs (complement r) m)

pub near_member : (q : Literal) (qs : List Literal) (r : Literal) → Contains qs q → IsNear (q ∷ []) r → IsNear qs r
near_member q qs r there (inl m) = inl (subst (λ (x : Literal). Contains qs x) (sym (only q r m)) there)
near_member q qs r there (inr m) = inr (subst (λ (x : Literal). Contains qs x) (sym (only q (complement r) m)) there)
