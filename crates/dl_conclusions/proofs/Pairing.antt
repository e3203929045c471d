-- Positive literals in order, each with its complement after it, are in order too.
use Rattle.std.proofs.Common.{◌≡◌, ◌∙◌, Bool, true, suc, List, [], ◌∷◌, ◌++◌, map, get_or, inl, inr, refl, sym, ap, subst, arith}
use Rattle.std.specs.Prelude.{not, All, AllPairs, Contains}
use Rattle.std.specs.List.{flat_map}
use Rattle.std.specs.Option.{option_cmp}
use Rattle.std.specs.Ordering.{bool_cmp, ordering_then}
use Rattle.std.specs.declared.cmp.Ordering.{Ordering}
use Rattle.std.specs.declared.cmp.Ordering.TheVariants.{Less, Equal, Greater}
use Rattle.std.proofs.lemmas.Cmp.{tied_itself}
use Rattle.std.proofs.lemmas.List.Elements.{All-nil, All-cons, All-head, All-tail, All-map, Contains-get_or, Contains-append_cases, Contains-append_right}
use Rattle.std.proofs.lemmas.List.Kept.{AllPairs-cons}
use Rattle.dl_base.proofs.Members.{only}
use Rattle.dl_lit.specs.declared.literal.Literal.{Literal}
use Rattle.dl_lit.specs.Literal.{complement}
use Rattle.dl_lit.specs.Order.{bytes_cmp, literal_cmp, literal_total}

-- a literal and then its complement
abbrev pub both : Literal → List Literal
both q = q ∷ complement q ∷ []

-- what comes of atoms and modes, where signs are alike
names_decide : (o m t : Ordering) → ordering_then o (ordering_then m Equal) ≡ Less → ordering_then o (ordering_then m t) ≡ Less
names_decide Less m t h = refl
names_decide Equal Less t h = refl
names_decide Equal Equal t h = cc
names_decide Equal Greater t h = cc
names_decide Greater m t h = cc

sign_decides : (o m t : Ordering) → ordering_then o (ordering_then m Equal) ≡ Equal → ordering_then o (ordering_then m t) ≡ t
sign_decides Less m t h = cc
sign_decides Equal Less t h = cc
sign_decides Equal Equal t h = refl
sign_decides Equal Greater t h = cc
sign_decides Greater m t h = cc

module _ (q r : Literal) (q_up : q.positive ≡ true) (r_up : r.positive ≡ true) where
  abbrev names : Ordering → Ordering
  names t = ordering_then (bytes_cmp q.atom r.atom) (ordering_then (option_cmp bytes_cmp q.mode r.mode) t)

  by_names : names Equal ≡ literal_cmp q r
  by_names = ap names (sym (ap (λ s. bool_cmp s q.positive) r_up ∙ ap (bool_cmp true) q_up))

  -- complements compare with others as positive literals do
  alike : literal_cmp q r ≡ Less → (a b : Bool) → literal_cmp (record q { positive = a }) (record r { positive = b }) ≡ Less
  alike h a b = names_decide (bytes_cmp q.atom r.atom) (option_cmp bytes_cmp q.mode r.mode) (bool_cmp b a) (by_names ∙ h)

-- a positive literal is before its complement
positive_first : (q : Literal) → q.positive ≡ true → literal_cmp q (complement q) ≡ Less
positive_first q up =
    sign_decides (bytes_cmp q.atom q.atom) (option_cmp bytes_cmp q.mode q.mode) (bool_cmp (not q.positive) q.positive)
    (by_names q q up up ∙ tied_itself literal_total q)
    ∙ ap (λ b. bool_cmp (not b) b) up

pub all_both : (P : Literal → Type 0) (qs : List Literal) → All (λ q. P q × P (complement q)) qs → All P (flat_map both qs)
all_both P [] h = All-nil P
all_both P (q ∷ qs) h =
    let B = λ (x : Literal). P x × P (complement x) in
    let here = All-head B q qs h in
    All-cons P q (complement q ∷ flat_map both qs) here.0 (All-cons P (complement q) (flat_map both qs) here.1 (all_both P qs (All-tail B q qs h)))

-- pairs of images are images of pairs
pub pairs_map : {X Y : Type 0} (R : Y → Y → Type 0) (f : X → Y) (xs : List X) → AllPairs (λ x y. R (f x) (f y)) xs → AllPairs R (map f xs)
pairs_map R f [] h = λ i j d lt within. absurd (omega (arith, within))
pairs_map R f (x ∷ xs) h =
    AllPairs-cons R (f x) (map f xs) (All-map (R (f x)) f xs (λ k d lt. h 0 (suc k) d (omega arith) (omega (arith, lt))))
    (pairs_map R f xs (λ i j d lt within. h (suc i) (suc j) d (omega (arith, lt)) (omega (arith, within))))

pub in_order_both : (qs : List Literal) → All (λ q. q.positive ≡ true) qs → AllPairs (λ q r. literal_cmp q r ≡ Less) qs
    → AllPairs (λ q r. literal_cmp q r ≡ Less) (flat_map both qs)
in_order_both [] up h = h
in_order_both (q ∷ qs) up h =
    let R = λ (x y : Literal). literal_cmp x y ≡ Less in
    let q_up = All-head (λ x. x.positive ≡ true) q qs up in
    let rest_up = All-tail (λ x. x.positive ≡ true) q qs up in
    let later : (a : Bool) → All (R (record q { positive = a })) (flat_map both qs) =
    λ a. all_both (R (record q { positive = a })) qs (λ k d lt.
    let r = get_or qs k d in
    let compared = alike q r q_up (rest_up k d lt) (h 0 (suc k) d (omega arith) (omega (arith, lt))) in
    (compared a r.positive, compared a (not r.positive))) in
    AllPairs-cons R q (complement q ∷ flat_map both qs)
    (All-cons (R q) (complement q) (flat_map both qs) (positive_first q q_up) (later q.positive))
    (AllPairs-cons R (complement q) (flat_map both qs) (later (not q.positive))
    (in_order_both qs rest_up (λ i j d lt within. h (suc i) (suc j) d (omega (arith, lt)) (omega (arith, within)))))

pub has_both : (qs : List Literal) (q : Literal) → Contains qs q → Contains (flat_map both qs) q × Contains (flat_map both qs) (complement q)
has_both [] q m = absurd (omega (arith, m.1))
has_both (r ∷ qs) q m =
    let all = both r ++ flat_map both qs in
    elim (Contains-append_cases (r ∷ []) qs q m) [
      | inl one ↦
          let is : q ≡ r = only r q one in (
            subst (λ (x : Literal). Contains all x) (sym is) (Contains-get_or all 0 r (omega arith)),
            subst (λ (x : Literal). Contains all (complement x)) (sym is) (Contains-get_or all 1 r (omega arith)),
          )
      | inr there ↦
          let rest = has_both qs q there in
          (Contains-append_right (both r) (flat_map both qs) q rest.0, Contains-append_right (both r) (flat_map both qs) (complement q) rest.1)
    ]
