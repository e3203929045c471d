-- The tests decide the conditions.
use Rattle.std.proofs.Common.{◌≡◌, ◌≢◌, suc, Bool, true, false, not, ◌&&◌, ◌||◌, List, [], ◌∷◌, ◌++◌, ◌⊎◌, refl, sym, subst, true≢false, arith}
use Rattle.std.specs.Prelude.{All, Any, Contains, IsTrue}
use Rattle.std.specs.Bool.{Decides}
use Rattle.std.specs.List.{list_any, list_all}
use Rattle.std.specs.Set.{is_member}
use Rattle.std.proofs.lemmas.List.Recursion.{or_at}
use Rattle.std.proofs.lemmas.Bool.Decides.{Decides-by_and, Decides-and, Decides-or, Decides-not, Decides-like}
use Rattle.std.proofs.lemmas.Map.Made.{is_member-Decides}
use Rattle.dl_lit.specs.declared.literal.Literal.{Literal}
use Rattle.dl_lit.specs.declared.literal.Tagged.{Tagged}
use Rattle.dl_lit.specs.declared.literal.Family.{Family}
use Rattle.dl_lit.specs.declared.literal.Family.TheVariants.{Definite, Blocking, Propagating, Support}
use Rattle.dl_lit.specs.Literal.{tagged, literal_eq}
use Rattle.dl_lit.specs.Order.{literal_eq-Decides, tagged_eq-Decides}
use Rattle.dl_theory.specs.declared.rule.Rule.{Rule}
use Rattle.dl_theory.specs.Lists.{TheoryLists, IsStrictFor, Supports, Opposes, Beats, attackers, is_strict, can_support}
use Rattle.dl_theory.specs.Pairs.{pair_eq-Decides}
use Rattle.dl_theory.specs.Conditions.{IsOn, IsOff, Prevails, Fails, Condition, Meets}
use Rattle.std.proofs.lemmas.List.Kept.{AllPairs-cons}
use Rattle.std.proofs.lemmas.List.Elements.{Contains-get_or}
use Rattle.dl_base.specs.Paths.{IsDistinct}
use Rattle.dl_theory.specs.Derivations.{Derives, IsGap}
use Rattle.dl_theory.specs.Tests as test

pub decides_member : (xs : List Tagged) (x : Tagged) → Decides (test.has xs x) (Contains xs x)
decides_member xs x = is_member-Decides tagged_eq-Decides xs x

pub decides_lacks : (xs : List Tagged) (x : Tagged) → Decides (test.lacks xs x) (¬ Contains xs x)
decides_lacks xs x = Decides-not (test.has xs x) (decides_member xs x)

-- of three parts
decides_three : {P Q R : Type 0} (a b c : Bool) → Decides a P → Decides b Q → Decides c R → Decides ((a && b) && c) (P × Q × R)
decides_three a b c p q r =
    Decides-like ((a && b) && c) (λ h. (h.0.0, h.0.1, h.1)) (λ h. ((h.0, h.1), h.2)) (Decides-and (a && b) c (Decides-and a b p q) r)

decides_implies : {P Q : Type 0} (a b : Bool) → Decides a P → Decides b Q → Decides (test.implies a b) (P → Q)
decides_implies true b p q = (λ h _. q.0 h, λ f. q.1 (f (p.0 refl)))
decides_implies false b p q = (λ _ h. absurd (true≢false (sym (p.1 h))), λ _. refl)

decides_true : (b : Bool) → Decides b (IsTrue b)
decides_true b = (λ h. h, λ h. h)

module _ {X : Type 0} (p : X → Bool) (P : X → Type 0) (each : (x : X) → Decides (p x) (P x)) where
  pub decides_all : (xs : List X) → Decides (list_all p xs) (All P xs)
  decides_all = Decides-by_and p P (list_all p) each refl (λ _ _. refl)

  found : (xs : List X) → list_any p xs ≡ true → Any P xs
  found [] h = absurd (true≢false (sym h))
  found (x ∷ xs) h =
      elim (p x) as (λ b. p x ≡ b → (b || list_any p xs) ≡ true → Any P (x ∷ xs)) [
        | true ↦ λ e _. (0, x, omega arith, refl, (each x).0 e)
        | false ↦ λ e k. let r = found xs k in (suc r.0, r.1, omega (arith, r.2), r.3, r.4)
      ] refl h

  decides_any : (xs : List X) → Decides (list_any p xs) (Any P xs)
  decides_any xs = (found xs, λ h. or_at (list_any p) p refl (λ _ _. refl) xs h.0 h.1 h.2 ((each _).1 (subst P (sym h.3) h.4)))

module _ (T : TheoryLists) (got : Tagged → Bool) (Got : Tagged → Type 0) (each : (y : Tagged) → Decides (got y) (Got y)) where
  decides_on : (f : Family) (r : Rule) → Decides (test.is_on got f r) (IsOn Got f r)
  decides_on f r = decides_all (λ b. got (tagged true f b)) (λ b. Got (tagged true f b)) (λ b. each (tagged true f b)) r.body

  decides_off : (f : Family) (r : Rule) → Decides (test.is_off got f r) (IsOff Got f r)
  decides_off f r = decides_any (λ b. got (tagged false f b)) (λ b. Got (tagged false f b)) (λ b. each (tagged false f b)) r.body

  decides_strict : (q : Literal) (r : Rule) → Decides (test.is_strict_for q r) (IsStrictFor q r)
  decides_strict q r = Decides-and (literal_eq r.head q) (is_strict r.kind) (literal_eq-Decides r.head q) (decides_true (is_strict r.kind))

  decides_support : (q : Literal) (r : Rule) → Decides (test.is_support q r) (Supports q r)
  decides_support q r = Decides-and (literal_eq r.head q) (can_support r.kind) (literal_eq-Decides r.head q) (decides_true (can_support r.kind))

  decides_opposing : (q : Literal) (r : Rule) → Decides (test.is_opposing T q r) (Opposes T q r)
  decides_opposing q r = is_member-Decides literal_eq-Decides (attackers T q) r.head

  decides_beating : (t u : Rule) → Decides (test.is_beating T t u) (Beats T t u)
  decides_beating t u = is_member-Decides pair_eq-Decides T.pairs (record { upper = t.label; lower = u.label })

  decides_fact : (q : Literal) → Decides (is_member literal_eq T.facts q) (Contains T.facts q)
  decides_fact q = is_member-Decides literal_eq-Decides T.facts q

  decides_prevails : (f against : Family) (q : Literal) → Decides (test.prevails T got f against q) (Prevails T Got f against q)
  decides_prevails f against q =
      Decides-like (test.prevails T got f against q)
      (λ h. record { supported = h.0; unopposed = h.1; answered = h.2 })
      (λ h. (h.supported, h.unopposed, h.answered))
      (decides_three _ _ _
      (decides_any (λ r. test.is_support q r && test.is_on got f r) (λ r. Supports q r × IsOn Got f r)
      (λ r. Decides-and _ _ (decides_support q r) (decides_on f r)) T.rules)
      (decides_all (λ c. got (tagged false Definite c)) (λ c. Got (tagged false Definite c)) (λ c. each (tagged false Definite c)) (attackers T q))
      (decides_all
      (λ u. test.implies (test.is_opposing T q u)
      (test.is_off got against u || list_any (λ t. (test.is_support q t && test.is_beating T t u) && test.is_on got f t) T.rules))
      (λ u. Opposes T q u → IsOff Got against u ⊎ Any (λ t. Supports q t × Beats T t u × IsOn Got f t) T.rules)
      (λ u. decides_implies _ _ (decides_opposing q u)
      (Decides-or _ _ (decides_off against u)
      (decides_any (λ t. (test.is_support q t && test.is_beating T t u) && test.is_on got f t) (λ t. Supports q t × Beats T t u × IsOn Got f t)
      (λ t. decides_three _ _ _ (decides_support q t) (decides_beating t u) (decides_on f t)) T.rules)))
      T.rules))

  decides_fails : (f against : Family) (q : Literal) → Decides (test.fails T got f against q) (Fails T Got f against q)
  decides_fails f against q =
      Decides-or _ _
      (decides_all (λ r. test.implies (test.is_support q r) (test.is_off got f r)) (λ r. Supports q r → IsOff Got f r)
      (λ r. decides_implies _ _ (decides_support q r) (decides_off f r)) T.rules)
      (Decides-or _ _
      (decides_any (λ c. got (tagged true Definite c)) (λ c. Got (tagged true Definite c)) (λ c. each (tagged true Definite c)) (attackers T q))
      (decides_any
      (λ u. (test.is_opposing T q u && test.is_on got against u)
      && list_all (λ t. test.implies (test.is_support q t) (test.is_off got f t || not (test.is_beating T t u))) T.rules)
      (λ u. Opposes T q u × IsOn Got against u × All (λ t. Supports q t → IsOff Got f t ⊎ ¬ Beats T t u) T.rules)
      (λ u. decides_three _ _ _ (decides_opposing q u) (decides_on against u)
      (decides_all (λ t. test.implies (test.is_support q t) (test.is_off got f t || not (test.is_beating T t u)))
      (λ t. Supports q t → IsOff Got f t ⊎ ¬ Beats T t u)
      (λ t. decides_implies _ _ (decides_support q t)
      (Decides-or _ _ (decides_off f t) (Decides-not _ (decides_beating t u)))) T.rules))
      T.rules))

  decides_condition : (p : Bool) (f : Family) (q : Literal) → Decides (test.condition T got p f q) (Condition T Got p f q)
  decides_condition true Definite q =
      Decides-or _ _ (decides_fact q)
      (decides_any (λ r. test.is_strict_for q r && test.is_on got Definite r) (λ r. IsStrictFor q r × IsOn Got Definite r)
      (λ r. Decides-and _ _ (decides_strict q r) (decides_on Definite r)) T.rules)
  decides_condition false Definite q =
      Decides-and _ _ (Decides-not _ (decides_fact q))
      (decides_all (λ r. test.implies (test.is_strict_for q r) (test.is_off got Definite r)) (λ r. IsStrictFor q r → IsOff Got Definite r)
      (λ r. decides_implies _ _ (decides_strict q r) (decides_off Definite r)) T.rules)
  decides_condition true Blocking q = Decides-or _ _ (each (tagged true Definite q)) (decides_prevails Blocking Blocking q)
  decides_condition false Blocking q = Decides-and _ _ (each (tagged false Definite q)) (decides_fails Blocking Blocking q)
  decides_condition true Propagating q = Decides-or _ _ (each (tagged true Definite q)) (decides_prevails Propagating Support q)
  decides_condition false Propagating q = Decides-and _ _ (each (tagged false Definite q)) (decides_fails Propagating Support q)
  decides_condition true Support q =
      Decides-or _ _ (each (tagged true Definite q))
      (decides_any
      (λ r. (test.is_support q r && test.is_on got Support r)
      && list_all (λ u. test.implies (test.is_opposing T q u) (test.is_off got Propagating u || not (test.is_beating T u r))) T.rules)
      (λ r. Supports q r × IsOn Got Support r × All (λ u. Opposes T q u → IsOff Got Propagating u ⊎ ¬ Beats T u r) T.rules)
      (λ r. decides_three _ _ _ (decides_support q r) (decides_on Support r)
      (decides_all (λ u. test.implies (test.is_opposing T q u) (test.is_off got Propagating u || not (test.is_beating T u r)))
      (λ u. Opposes T q u → IsOff Got Propagating u ⊎ ¬ Beats T u r)
      (λ u. decides_implies _ _ (decides_opposing q u)
      (Decides-or _ _ (decides_off Propagating u) (Decides-not _ (decides_beating u r)))) T.rules))
      T.rules)
  decides_condition false Support q =
      Decides-and _ _ (each (tagged false Definite q))
      (decides_all
      (λ r. test.implies (test.is_support q r)
      (test.is_off got Support r || list_any (λ u. (test.is_opposing T q u && test.is_beating T u r) && test.is_on got Propagating u) T.rules))
      (λ r. Supports q r → IsOff Got Support r ⊎ Any (λ u. Opposes T q u × Beats T u r × IsOn Got Propagating u) T.rules)
      (λ r. decides_implies _ _ (decides_support q r)
      (Decides-or _ _ (decides_off Support r)
      (decides_any (λ u. (test.is_opposing T q u && test.is_beating T u r) && test.is_on got Propagating u) (λ u. Opposes T q u × Beats T u r × IsOn Got Propagating u)
      (λ u. decides_three _ _ _ (decides_opposing q u) (decides_beating u r) (decides_on Propagating u)) T.rules)))
      T.rules)

  pub decides_meets : (x : Tagged) → Decides (test.meets T got x) (Meets T Got x)
  decides_meets x = decides_condition x.plus x.family x.literal

pub decides_derives : (T : TheoryLists) (before rest : List Tagged) → Decides (test.derives T before rest) (Derives T before rest)
decides_derives T before [] = (λ _. tt, λ _. refl)
decides_derives T before (x ∷ rest) =
    decides_three _ _ _ (decides_lacks before x) (decides_meets T (test.has before) (Contains before) (decides_member before) x)
    (decides_derives T (before ++ x ∷ []) rest)

distinct_by_test : (xs : List Tagged) → test.is_distinct xs ≡ true → IsDistinct xs
distinct_by_test [] h = λ i j d before within. absurd (omega arith)
distinct_by_test (x ∷ xs) h =
    let parts = (Decides-and (test.lacks xs x) (test.is_distinct xs) (decides_lacks xs x) (decides_true (test.is_distinct xs))).0 h in
    AllPairs-cons (λ y z. y ≢ z) x xs
    (λ k d lt e. parts.0 (subst (λ (y : Tagged). Contains xs y) (sym e) (Contains-get_or xs k d lt)))
    (distinct_by_test xs parts.1)

nonempty_by_test : (xs : List Tagged) → test.is_nonempty xs ≡ true → xs ≢ []
nonempty_by_test [] h = λ _. true≢false (sym h)
nonempty_by_test (x ∷ xs) h = λ e. cc

pub gap_by_test : (T : TheoryLists) (xs : List Tagged) → test.is_gap T xs ≡ true → IsGap T xs
gap_by_test T xs h =
    let parts = (decides_three (test.is_nonempty xs) (test.is_distinct xs) _ (decides_true _) (decides_true _)
    (decides_all (λ x. not (test.meets T (test.lacks xs) x)) (λ x. ¬ Meets T (λ y. ¬ Contains xs y) x)
    (λ x. Decides-not _ (decides_meets T (test.lacks xs) (λ y. ¬ Contains xs y) (decides_lacks xs) x)) xs)).0 h in
    record { some = nonempty_by_test xs parts.0; distinct = distinct_by_test xs parts.1; unmet = parts.2 }
