-- The literals that an edit is the first to name.
use Rattle.std.proofs.Common.{◌⊎◌, Result, Ok, Err, ◌+◌, ◌++◌, ◌∷◌, [], List, length, get_or, inl, inr, sym, subst, ap, arith, ◌∙◌}
use Rattle.std.specs.Prelude.{Contains, OnOk}
use Rattle.std.proofs.lemmas.List.{length-append}
use Rattle.std.proofs.lemmas.List.Elements.{Contains-get_or, Contains-append_cases}
use Rattle.dl_base.specs.Paths.{IsDistinct}
use Rattle.dl_base.proofs.Members.{only}
use Rattle.dl_base.proofs.Distinct.{no_longer, distinct_right, distinct_apart}
use Rattle.dl_lit.specs.declared.literal.Literal.{Literal}
use Rattle.dl_lit.specs.Literal.{complement}
use Rattle.dl_lit.specs.Names.{with_both}
use Rattle.dl_theory.proofs.Deciding.{literal_in}
use Rattle.dl_graph.specs.Named.{IsNear, IsPaired}
use Rattle.dl_names.proofs.NameLemmas.{complement_twice, paired_push, both_old, both_new}
use Rattle.dl_update.specs.Drafts.{IsNew, IsEnough}

-- names in pairs stay so with one more literal and its complement
pub both_paired : (ls : List Literal) (q : Literal) → IsPaired ls → IsPaired (with_both ls q)
both_paired ls q h =
    elim (literal_in ls q) [
      | inl there ↦ subst IsPaired (sym (both_old ls q h there)) h
      | inr none ↦ subst IsPaired (sym (both_new ls q h none)) (paired_push ls q h)
    ]

-- with a literal, what is near it is there
pub near_there : (ls : List Literal) → ((q : Literal) → Contains ls q → Contains ls (complement q)) → (l q : Literal) → Contains ls l → IsNear (l ∷ []) q
    → Contains ls q
near_there ls closed l q there (inl m) = subst (Contains ls) (sym (only l q m)) there
near_there ls closed l q there (inr m) =
    subst (Contains ls) (ap complement (sym (only l (complement q) m)) ∙ complement_twice q) (closed l there)

-- what is near an unknown literal is unknown
pub near_new : (known : List Literal) → ((q : Literal) → Contains known q → Contains known (complement q)) → (l : Literal) → (¬ Contains known l)
    → (q : Literal) → IsNear (l ∷ []) q → IsNew known (l ∷ []) q
near_new known closed l absent q (inl m) = (inl m, λ there. absent (subst (Contains known) (only l q m) there))
near_new known closed l absent q (inr m) = (inr m, λ there. absent (subst (Contains known) (only l (complement q) m) (closed q there)))

-- near literals among more
pub near_more : (qs rs : List Literal) → ((q : Literal) → Contains qs q → Contains rs q) → (q : Literal) → IsNear qs q → IsNear rs q
near_more qs rs more q (inl m) = inl (more q m)
near_more qs rs more q (inr m) = inr (more (complement q) m)

pub new_more : (known qs rs : List Literal) → ((q : Literal) → Contains qs q → Contains rs q) → (q : Literal) → IsNew known qs q → IsNew known rs q
new_more known qs rs more q h = (near_more qs rs more q h.0, h.1)

-- what is near literals is near one of two parts
pub near_parts : (qs rs : List Literal) (q : Literal) → IsNear (qs ++ rs) q → IsNear qs q ⊎ IsNear rs q
near_parts qs rs q (inl m) = elim (Contains-append_cases qs rs q m) [ inl a ↦ inl (inl a) | inr b ↦ inr (inl b) ]
near_parts qs rs q (inr m) = elim (Contains-append_cases qs rs (complement q) m) [ inl a ↦ inl (inr a) | inr b ↦ inr (inr b) ]

-- there is room for all names where what is new was counted
pub enough_names : (known qs fresh : List Literal) → ((q : Literal) → IsNew known qs q → Contains fresh q) → IsEnough known qs (length known + length fresh)
enough_names known qs fresh there names by =
    let grows = by.1 in
    let apart : IsDistinct (known ++ grows.more) = subst IsDistinct grows.is by.0 in
    let few = no_longer grows.more fresh (distinct_right known grows.more apart)
    (λ k d lt. there (get_or grows.more k d) (
      grows.only k d lt,
      λ m. distinct_apart known grows.more (get_or grows.more k d) apart m (Contains-get_or grows.more k d lt),
    )) in
    omega (arith, few, ap length grows.is, length-append known grows.more)

-- what follows on a success
pub on_ok : {E : Type 0} (r : Result (Unit {0}) E) (A B : Type 0) → (A → B) → OnOk r A → OnOk r B
on_ok (Ok u) A B f a = f a
on_ok (Err e) A B f a = tt
