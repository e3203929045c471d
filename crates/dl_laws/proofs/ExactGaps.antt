-- What matters for a literal and does not follow is a gap where neither tag of the literal follows.
use Rattle.std.proofs.Common.{◌≡◌, ◌≢◌, true, List, [], ◌∷◌, get_or, refl, sym, subst, ◌∙◌, arith}
use Rattle.std.specs.Prelude.{All, Contains}
use Rattle.std.specs.declared.cmp.Ordering.TheVariants.{Less, Equal}
use Rattle.std.proofs.lemmas.Cmp.{tied_itself}
use Rattle.std.proofs.lemmas.List.Elements.{All-nil, All-cons, All-head, All-tail, All-contains, All-contains_itself}
use Rattle.dl_lit.specs.declared.literal.Literal.{Literal}
use Rattle.dl_lit.specs.declared.literal.Tagged.{Tagged}
use Rattle.dl_lit.specs.declared.literal.Family.{Family}
use Rattle.dl_lit.specs.declared.literal.Family.TheVariants.{Definite, Blocking, Propagating, Support}
use Rattle.dl_lit.specs.Literal.{tagged}
use Rattle.dl_lit.specs.Order.{tagged_cmp, tagged_total}
use Rattle.dl_base.specs.Paths.{IsDistinct}
use Rattle.dl_theory.specs.Lists.{TheoryLists}
use Rattle.dl_theory.specs.Conditions.{Meets}
use Rattle.dl_theory.specs.Derivations.{Follows}
use Rattle.dl_theory.specs.Verdicts.{Reaches, Back, needs, IsExactGap}
use Rattle.dl_theory.proofs.Needs.{needs_itself}
use Rattle.dl_theory.proofs.Within.{meets_more}
use Rattle.dl_theory.proofs.Finite.{meets_rests}
use Rattle.dl_theory.proofs.Closure.{follows_over, back_closed}
use Rattle.dl_laws.specs.Conclusions.{ExactGapsAreGaps}

definite_first : (f : Family) → Contains (needs f) Definite
definite_first Definite = (0, omega arith, refl)
definite_first Blocking = (0, omega arith, refl)
definite_first Propagating = (0, omega arith, refl)
definite_first Support = (0, omega arith, refl)

-- f needs what g needs
abbrev Inner : Family → Family → Type 0
Inner f g = All (Contains (needs f)) (needs g)

definite_inner : (f : Family) → Inner f Definite
definite_inner f = All-cons (Contains (needs f)) Definite [] (definite_first f) (All-nil (Contains (needs f)))

all_inner : (f : Family) → All (Inner f) (needs f)
all_inner Definite = All-cons (Inner Definite) Definite [] (definite_inner Definite) (All-nil (Inner Definite))
all_inner Blocking =
    All-cons (Inner Blocking) Definite (Blocking ∷ []) (definite_inner Blocking)
    (All-cons (Inner Blocking) Blocking [] (All-contains_itself (needs Blocking)) (All-nil (Inner Blocking)))
all_inner Propagating =
    All-cons (Inner Propagating) Definite (Propagating ∷ Support ∷ []) (definite_inner Propagating)
    (All-cons (Inner Propagating) Propagating (Support ∷ []) (All-contains_itself (needs Propagating))
    (All-cons (Inner Propagating) Support [] (All-contains_itself (needs Propagating)) (All-nil (Inner Propagating))))
all_inner Support =
    All-cons (Inner Support) Definite (Propagating ∷ Support ∷ []) (definite_inner Support)
    (All-cons (Inner Support) Propagating (Support ∷ []) (All-contains_itself (needs Support))
    (All-cons (Inner Support) Support [] (All-contains_itself (needs Support)) (All-nil (Inner Support))))

needs_further : (e f g : Family) → Contains (needs f) g → Contains (needs e) f → Contains (needs e) g
needs_further e f g m h = All-contains (Contains (needs e)) (needs f) g (All-contains (Inner e) (needs e) f (all_inner e) h) m

less_apart : (x y : Tagged) → tagged_cmp x y ≡ Less → x ≢ y
less_apart x y less e =
    let tied : tagged_cmp x x ≡ Equal = tied_itself tagged_total x in
    let itself : tagged_cmp x x ≡ Less = subst (λ (z : Tagged). tagged_cmp x z ≡ Less) (sym e) less in
    let clash : Equal ≡ Less = sym tied ∙ itself in
    cc

module _ (T : TheoryLists) where
  -- where each of finitely many cannot fail to follow, all of them cannot
  none_fails : (xs : List Tagged) → All (λ y. ¬ (¬ Follows T y)) xs → ¬ (¬ All (Follows T) xs)
  none_fails [] h fails = fails (All-nil (Follows T))
  none_fails (x ∷ xs) h fails =
      All-head (λ y. ¬ (¬ Follows T y)) x xs h
      (λ one. none_fails xs (All-tail (λ y. ¬ (¬ Follows T y)) x xs h) (λ rest. fails (All-cons (Follows T) x xs one rest)))

  module _ (f : Family) (q : Literal) (members : List Tagged) (listed : IsExactGap T f q members) where
    -- what matters and is not in the list cannot fail to follow, so what meets its condition over that cannot either
    unmet : All (λ x. ¬ Meets T (λ y. ¬ Contains members y) x) members
    unmet k d lt meets =
        let x = get_or members k d in
        let is = listed.sound k d lt in
        let over =
        meets_more T (Contains (needs f)) (Back T q) (back_closed T (Contains (needs f)) (needs_further f) q) (λ y. ¬ Contains members y)
        (λ y. ¬ (¬ Follows T y)) (λ y family back out fails. out (listed.complete y ((back, family), fails))) x is.0.1 is.0.0 meets in
        let r = meets_rests T (λ y. ¬ (¬ Follows T y)) x over in
        none_fails r.0 r.1 (λ all. is.1 (follows_over T r.0 x all r.2))

    distinct : IsDistinct members
    distinct i j d before within same = less_apart (get_or members i d) (get_or members j d) (listed.in_order i j d before within) same

    some : (¬ Follows T (tagged true f q)) → members ≢ []
    some fails e =
        let m : Contains members (tagged true f q) = listed.complete (tagged true f q) ((Reaches.start q refl, needs_itself f), fails) in
        let none : Contains [] (tagged true f q) = subst (λ (xs : List Tagged). Contains xs (tagged true f q)) e m in
        absurd (omega (arith, none.1))

pub exact_gaps_are_gaps : (T : TheoryLists) → ExactGapsAreGaps T
exact_gaps_are_gaps T f q members neither listed = record {
  some = some T f q members listed neither.0;
  distinct = distinct T f q members listed;
  unmet = unmet T f q members listed;
}
