-- The literals of a theory and the tagged literals over them, in no order.
use Rattle.std.proofs.Common.{◌≡◌, Bool, true, false, ◌||◌, List, [], ◌∷◌, ◌++◌, ◌⊎◌, inl, inr, map, refl, sym, subst, arith}
use Rattle.std.specs.Prelude.{Any, Contains}
use Rattle.std.specs.Bool.{Decides}
use Rattle.std.specs.List.{list_any, flat_map}
use Rattle.std.specs.Set.{is_member}
use Rattle.std.proofs.lemmas.Bool.Decides.{Decides-or}
use Rattle.std.proofs.lemmas.List.Folds.{Any-from_list_any, list_any-from_Any}
use Rattle.std.proofs.lemmas.Map.Made.{is_member-Decides}
use Rattle.std.proofs.lemmas.List.Elements.{Contains-append_left, Contains-append_right, Contains-get_or}
use Rattle.dl_base.proofs.Members.{any_more, Contains-mapped, in_flat_map}
use Rattle.dl_lit.specs.declared.literal.Literal.{Literal}
use Rattle.dl_lit.specs.declared.literal.Tagged.{Tagged}
use Rattle.dl_lit.specs.declared.literal.Family.{Family}
use Rattle.dl_lit.specs.declared.literal.Family.TheVariants.{Definite, Blocking, Propagating, Support}
use Rattle.dl_lit.specs.Literal.{complement, literal_eq, tagged}
use Rattle.dl_lit.specs.Order.{literal_eq-Decides}
use Rattle.dl_theory.specs.declared.rule.Rule.{Rule}
use Rattle.dl_theory.specs.Lists.{TheoryLists}
use Rattle.dl_theory.specs.Listings.{Occurs, Mentions}
use Rattle.dl_theory.proofs.Closure.{complement_twice}

abbrev of_rule : Rule → List Literal
of_rule r = r.head ∷ r.body

abbrev occurring : TheoryLists → List Literal
occurring T = T.facts ++ flat_map of_rule T.rules

abbrev pub literals : TheoryLists → List Literal
literals T = occurring T ++ map complement (occurring T)

in_rule : (r : Rule) (q : Literal) → (r.head ≡ q) ⊎ Contains r.body q → Contains (of_rule r) q
in_rule r q (inl head) = subst (λ (c : Literal). Contains (of_rule r) c) head (Contains-get_or (of_rule r) 0 r.head (omega arith))
in_rule r q (inr body) = Contains-append_right (r.head ∷ []) r.body q body

has_occurring : (T : TheoryLists) (q : Literal) → Occurs T q → Contains (occurring T) q
has_occurring T q (inl fact) = Contains-append_left T.facts (flat_map of_rule T.rules) q fact
has_occurring T q (inr rule) =
    Contains-append_right T.facts (flat_map of_rule T.rules) q
    (in_flat_map of_rule T.rules rule.1 q (rule.0, rule.2, rule.3) (in_rule rule.1 q rule.4))

pub has_literal : (T : TheoryLists) (q : Literal) → Mentions T q → Contains (literals T) q
has_literal T q (inl o) = Contains-append_left (occurring T) (map complement (occurring T)) q (has_occurring T q o)
has_literal T q (inr o) =
    Contains-append_right (occurring T) (map complement (occurring T)) q
    (subst (λ (c : Literal). Contains (map complement (occurring T)) c) (complement_twice q)
    (Contains-mapped complement (occurring T) (complement q) (has_occurring T (complement q) o)))

-- the tests decide whether a literal is mentioned

decides_some : {X : Type 0} (p : X → Bool) (P : X → Type 0) → ((x : X) → Decides (p x) (P x)) → (xs : List X) → Decides (list_any p xs) (Any P xs)
decides_some p P each xs = (
  λ h. any_more (λ x. p x ≡ true) P xs (λ x _ passes. (each x).0 passes) (Any-from_list_any p xs h),
  λ a. list_any-from_Any p xs (any_more P (λ x. p x ≡ true) xs (λ x _ is. (each x).1 is) a),
)

abbrev occurs : TheoryLists → Literal → Bool
occurs T q = is_member literal_eq T.facts q || list_any (λ r. literal_eq r.head q || is_member literal_eq r.body q) T.rules

abbrev pub mentions : TheoryLists → Literal → Bool
mentions T q = occurs T q || occurs T (complement q)

decides_occurs : (T : TheoryLists) (q : Literal) → Decides (occurs T q) (Occurs T q)
decides_occurs T q =
    Decides-or _ _ (is_member-Decides literal_eq-Decides T.facts q)
    (decides_some (λ r. literal_eq r.head q || is_member literal_eq r.body q) (λ r. (r.head ≡ q) ⊎ Contains r.body q)
    (λ r. Decides-or _ _ (literal_eq-Decides r.head q) (is_member-Decides literal_eq-Decides r.body q)) T.rules)

pub decides_mentions : (T : TheoryLists) (q : Literal) → Decides (mentions T q) (Mentions T q)
decides_mentions T q = Decides-or _ _ (decides_occurs T q) (decides_occurs T (complement q))

-- the tagged literals over a literal

abbrev of_sign : Bool → Literal → List Tagged
of_sign plus q = tagged plus Definite q ∷ tagged plus Blocking q ∷ tagged plus Propagating q ∷ tagged plus Support q ∷ []

in_sign : (plus : Bool) (f : Family) (q : Literal) → Contains (of_sign plus q) (tagged plus f q)
in_sign plus Definite q = (0, omega arith, refl)
in_sign plus Blocking q = (1, omega arith, refl)
in_sign plus Propagating q = (2, omega arith, refl)
in_sign plus Support q = (3, omega arith, refl)

abbrev of_literal : Literal → List Tagged
of_literal q = of_sign true q ++ of_sign false q

in_literal : (plus : Bool) (f : Family) (q : Literal) → Contains (of_literal q) (tagged plus f q)
in_literal true f q = Contains-append_left (of_sign true q) (of_sign false q) (tagged true f q) (in_sign true f q)
in_literal false f q = Contains-append_right (of_sign true q) (of_sign false q) (tagged false f q) (in_sign false f q)

abbrev pub tags_of : List Literal → List Tagged
tags_of qs = flat_map of_literal qs

pub has_tags : (qs : List Literal) (x : Tagged) → Contains qs x.literal → Contains (tags_of qs) x
has_tags qs x m = in_flat_map of_literal qs x.literal x m (in_literal x.plus x.family x.literal)
