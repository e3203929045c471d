-- A literal that does not occur is refuted by a derivation of one member or two.
use Rattle.std.proofs.Common.{◌≡◌, false, List, [], ◌∷◌, get_or, inl, inr, sym, subst, ap, refl, arith}
use Rattle.std.specs.Prelude.{Contains}
use Rattle.std.proofs.lemmas.List.Elements.{All-nil, All-cons, Contains-get_or}
use Rattle.dl_base.proofs.Members.{only}
use Rattle.dl_lit.specs.declared.literal.Literal.{Literal}
use Rattle.dl_lit.specs.declared.literal.Tagged.{Tagged}
use Rattle.dl_lit.specs.declared.literal.Family.{Family}
use Rattle.dl_lit.specs.declared.literal.Family.TheVariants.{Definite, Blocking, Propagating, Support}
use Rattle.dl_lit.specs.Literal.{tagged}
use Rattle.dl_theory.specs.declared.rule.Rule.{Rule}
use Rattle.dl_theory.specs.declared.answer.Verdict.TheVariants.{Refuted}
use Rattle.dl_theory.specs.declared.answer.Certificate.TheVariants as certificate
use Rattle.dl_theory.specs.Lists.{TheoryLists}
use Rattle.dl_theory.specs.Conditions.{Condition}
use Rattle.dl_theory.specs.Listings.{Occurs}
use Rattle.dl_theory.specs.Verdicts.{Reaches, needs, Matters, DerivesAt, Fits}
use Rattle.dl_theory.proofs.Unmentioned as unmentioned
use Rattle.dl_derive.specs.Unnumbered.{refuted_steps}

module _ (T : TheoryLists) (q : Literal) (absent : ¬ Occurs T q) where
  no_rule : (r : Rule) → Contains T.rules r → r.head ≡ q → ⊥
  no_rule r m e = absent (inr (m.0, r, m.1, m.2, inl e))

  first : List Tagged
  first = tagged false Definite q ∷ []

  definite_meets : (got : Tagged → Type 0) → Condition T got false Definite q
  definite_meets got =
      (λ fact. absent (inl fact), λ k d lt s. absurd (no_rule (get_or T.rules k d) (Contains-get_or T.rules k d lt) s.0))

  there : Contains (tagged false Definite q ∷ []) (tagged false Definite q)
  there = (0, omega arith, refl)

  meets : (f : Family) → Condition T (Contains (tagged false Definite q ∷ [])) false f q
  meets Definite = definite_meets (Contains (tagged false Definite q ∷ []))
  meets Blocking = (there, inl (λ k d lt s. absurd (no_rule (get_or T.rules k d) (Contains-get_or T.rules k d lt) s.0)))
  meets Propagating = (there, inl (λ k d lt s. absurd (no_rule (get_or T.rules k d) (Contains-get_or T.rules k d lt) s.0)))
  meets Support = (there, λ k d lt s. absurd (no_rule (get_or T.rules k d) (Contains-get_or T.rules k d lt) s.0))

  matters : (f g : Family) → Contains (needs f) g → Matters T f q (tagged false g q)
  matters f g m = (Reaches.start q refl, m)

  -- behind the first, in another family
  module _ (f : Family) (other : ¬ (f ≡ Definite)) (own : Contains (needs f) f) (definite : Contains (needs f) Definite) where
    behind : DerivesAt T f q (tagged false f q) (tagged false Definite q ∷ tagged false f q ∷ [])
    behind = record {
      before = tagged false Definite q ∷ [];
      ends = refl;
      derivation = (
        λ m. omega (arith, m.1),
        definite_meets (Contains []),
        (
          λ m. other (ap (λ (x : Tagged). x.family) (only (tagged false Definite q) (tagged false f q) m)),
          meets f,
          tt,
        ),
      );
      matters =
          All-cons (Matters T f q) (tagged false Definite q) (tagged false f q ∷ []) (matters f Definite definite)
          (All-cons (Matters T f q) (tagged false f q) [] (matters f f own) (All-nil (Matters T f q)));
    }

  abbrev is_definite : Family → Type 0
  is_definite Definite = Unit {0}
  is_definite Blocking = ⊥
  is_definite Propagating = ⊥
  is_definite Support = ⊥

  derives : (f : Family) → DerivesAt T f q (tagged false f q) (refuted_steps f q)
  derives Definite = record {
    before = [];
    ends = refl;
    derivation = (λ m. omega (arith, m.1), definite_meets (Contains []), tt);
    matters = All-cons (Matters T Definite q) (tagged false Definite q) [] (matters Definite Definite (0, omega arith, refl)) (All-nil (Matters T Definite q));
  }
  derives Blocking = behind Blocking (λ e. subst is_definite (sym e) tt) (1, omega arith, refl) (0, omega arith, refl)
  derives Propagating = behind Propagating (λ e. subst is_definite (sym e) tt) (1, omega arith, refl) (0, omega arith, refl)
  derives Support = behind Support (λ e. subst is_definite (sym e) tt) (2, omega arith, refl) (0, omega arith, refl)

  pub refuted_fits : (f : Family) → Fits T f q (record { verdict = Refuted; certificate = certificate.Derivation (refuted_steps f q) })
  refuted_fits f = record { verdict = unmentioned.refuted T q absent f; certificate = derives f }
