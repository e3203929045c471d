-- A condition stays met where more is derived, and looks only at literals that its own literal reaches.
use Rattle.std.proofs.Common.{◌≡◌, Bool, true, false, inl, inr, ◌⊎◌, sym, subst, refl, lit<}
use Rattle.std.specs.Prelude.{All, Any, Contains}
use Rattle.std.proofs.lemmas.List.Elements.{All-contains}
use Rattle.dl_base.proofs.Members.{all_more, any_more}
use Rattle.dl_lit.specs.declared.literal.Literal.{Literal}
use Rattle.dl_lit.specs.declared.literal.Tagged.{Tagged}
use Rattle.dl_lit.specs.declared.literal.Family.{Family}
use Rattle.dl_lit.specs.declared.literal.Family.TheVariants.{Definite, Blocking, Propagating, Support}
use Rattle.dl_lit.specs.Literal.{tagged}
use Rattle.dl_theory.specs.declared.rule.Rule.{Rule}
use Rattle.dl_theory.specs.Lists.{TheoryLists, IsStrictFor, Supports, Opposes, Beats, attackers}
use Rattle.dl_theory.specs.Verdicts.{needs}
use Rattle.dl_theory.specs.Conditions.{IsOn, IsOff, Prevails, Fails, Condition, Meets}

-- families that contain those that matter for them, and literals that contain what attacks them and the bodies of the rules for them
pub record IsClosedUnder (T : TheoryLists) (F : Family → Type 0) (S : Literal → Type 0) : Type 0 where
  pub families : (f g : Family) → Contains (needs f) g → F f → F g
  pub attacked : (q c : Literal) → S q → Contains (attackers T q) c → S c
  pub bodies : (r : Rule) → Contains T.rules r → S r.head → All S r.body

module _ (T : TheoryLists) (F : Family → Type 0) (S : Literal → Type 0) (closed : IsClosedUnder T F S) (got more : Tagged → Type 0)
    (grows : (y : Tagged) → F y.family → S y.literal → got y → more y) where
  on_more : (f : Family) (r : Rule) → F f → All S r.body → IsOn got f r → IsOn more f r
  on_more f r fam inside =
      all_more (λ b. got (tagged true f b)) (λ b. more (tagged true f b)) r.body
      (λ b m h. grows (tagged true f b) fam (All-contains S r.body b inside m) h)

  off_more : (f : Family) (r : Rule) → F f → All S r.body → IsOff got f r → IsOff more f r
  off_more f r fam inside =
      any_more (λ b. got (tagged false f b)) (λ b. more (tagged false f b)) r.body
      (λ b m h. grows (tagged false f b) fam (All-contains S r.body b inside m) h)

  inside_for : (q : Literal) (r : Rule) → S q → r.head ≡ q → Contains T.rules r → All S r.body
  inside_for q r sq e m = closed.bodies r m (subst S (sym e) sq)

  inside_against : (q : Literal) (r : Rule) → S q → Opposes T q r → Contains T.rules r → All S r.body
  inside_against q r sq o m = closed.bodies r m (closed.attacked q r.head sq o)

  beaten_more : (f : Family) (q : Literal) (u : Rule) → F f → S q
      → Any (λ t. Supports q t × Beats T t u × IsOn got f t) T.rules → Any (λ t. Supports q t × Beats T t u × IsOn more f t) T.rules
  beaten_more f q u fam sq =
      any_more (λ t. Supports q t × Beats T t u × IsOn got f t) (λ t. Supports q t × Beats T t u × IsOn more f t) T.rules
      (λ t m h. (h.0, h.1, on_more f t fam (inside_for q t sq h.0.0 m) h.2))

  prevails_more : (f against : Family) (q : Literal) → F f → F against → F Definite → S q → Prevails T got f against q → Prevails T more f against q
  prevails_more f against q fam other definite sq h = record {
    supported =
        any_more (λ r. Supports q r × IsOn got f r) (λ r. Supports q r × IsOn more f r) T.rules
        (λ r m s. (s.0, on_more f r fam (inside_for q r sq s.0.0 m) s.1)) h.supported;
    unopposed =
        all_more (λ c. got (tagged false Definite c)) (λ c. more (tagged false Definite c)) (attackers T q)
        (λ c m g. grows (tagged false Definite c) definite (closed.attacked q c sq m) g) h.unopposed;
    answered =
        all_more
        (λ u. Opposes T q u → IsOff got against u ⊎ Any (λ t. Supports q t × Beats T t u × IsOn got f t) T.rules)
        (λ u. Opposes T q u → IsOff more against u ⊎ Any (λ t. Supports q t × Beats T t u × IsOn more f t) T.rules)
        T.rules
        (λ u m a o. elim (a o) [ inl off ↦ inl (off_more against u other (inside_against q u sq o m) off) | inr b ↦ inr (beaten_more f q u fam sq b) ])
        h.answered;
  }

  fails_more : (f against : Family) (q : Literal) → F f → F against → F Definite → S q → Fails T got f against q → Fails T more f against q
  fails_more f against q fam other definite sq (inl unsupported) =
      inl (all_more (λ r. Supports q r → IsOff got f r) (λ r. Supports q r → IsOff more f r) T.rules
      (λ r m a s. off_more f r fam (inside_for q r sq s.0 m) (a s)) unsupported)
  fails_more f against q fam other definite sq (inr (inl attacked)) =
      inr (inl (any_more (λ c. got (tagged true Definite c)) (λ c. more (tagged true Definite c)) (attackers T q)
      (λ c m g. grows (tagged true Definite c) definite (closed.attacked q c sq m) g) attacked))
  fails_more f against q fam other definite sq (inr (inr defeated)) =
      inr (inr (any_more
      (λ u. Opposes T q u × IsOn got against u × All (λ t. Supports q t → IsOff got f t ⊎ ¬ Beats T t u) T.rules)
      (λ u. Opposes T q u × IsOn more against u × All (λ t. Supports q t → IsOff more f t ⊎ ¬ Beats T t u) T.rules)
      T.rules
      (λ u m h. (
        h.0,
        on_more against u other (inside_against q u sq h.0 m) h.1,
        all_more (λ t. Supports q t → IsOff got f t ⊎ ¬ Beats T t u) (λ t. Supports q t → IsOff more f t ⊎ ¬ Beats T t u) T.rules
            (λ t n a s. elim (a s) [ inl off ↦ inl (off_more f t fam (inside_for q t sq s.0 n) off) | inr b ↦ inr b ]) h.2,
      ))
      defeated))

  definite_in : (f : Family) → F f → F Definite
  definite_in Definite h = h
  definite_in Blocking h = closed.families Blocking Definite (0, lit< tt, refl) h
  definite_in Propagating h = closed.families Propagating Definite (0, lit< tt, refl) h
  definite_in Support h = closed.families Support Definite (0, lit< tt, refl) h

  support_in : F Propagating → F Support
  support_in = closed.families Propagating Support (2, lit< tt, refl)

  propagating_in : F Support → F Propagating
  propagating_in = closed.families Support Propagating (1, lit< tt, refl)

  condition_more : (p : Bool) (f : Family) (q : Literal) → F f → S q → Condition T got p f q → Condition T more p f q
  condition_more true Definite q fam sq (inl fact) = inl fact
  condition_more true Definite q fam sq (inr rule) =
      inr (any_more (λ r. IsStrictFor q r × IsOn got Definite r) (λ r. IsStrictFor q r × IsOn more Definite r) T.rules
      (λ r m h. (h.0, on_more Definite r fam (inside_for q r sq h.0.0 m) h.1)) rule)
  condition_more false Definite q fam sq h = (
    h.0,
    all_more (λ r. IsStrictFor q r → IsOff got Definite r) (λ r. IsStrictFor q r → IsOff more Definite r) T.rules
        (λ r m a s. off_more Definite r fam (inside_for q r sq s.0 m) (a s)) h.1,
  )
  condition_more true Blocking q fam sq (inl d) = inl (grows (tagged true Definite q) (definite_in Blocking fam) sq d)
  condition_more true Blocking q fam sq (inr h) = inr (prevails_more Blocking Blocking q fam fam (definite_in Blocking fam) sq h)
  condition_more false Blocking q fam sq h = (grows (tagged false Definite q) (definite_in Blocking fam) sq h.0, fails_more Blocking Blocking q fam fam (definite_in Blocking fam) sq h.1)
  condition_more true Propagating q fam sq (inl d) = inl (grows (tagged true Definite q) (definite_in Propagating fam) sq d)
  condition_more true Propagating q fam sq (inr h) = inr (prevails_more Propagating Support q fam (support_in fam) (definite_in Propagating fam) sq h)
  condition_more false Propagating q fam sq h = (grows (tagged false Definite q) (definite_in Propagating fam) sq h.0, fails_more Propagating Support q fam (support_in fam) (definite_in Propagating fam) sq h.1)
  condition_more true Support q fam sq (inl d) = inl (grows (tagged true Definite q) (definite_in Support fam) sq d)
  condition_more true Support q fam sq (inr h) =
      inr (any_more
      (λ r. Supports q r × IsOn got Support r × All (λ u. Opposes T q u → IsOff got Propagating u ⊎ ¬ Beats T u r) T.rules)
      (λ r. Supports q r × IsOn more Support r × All (λ u. Opposes T q u → IsOff more Propagating u ⊎ ¬ Beats T u r) T.rules)
      T.rules
      (λ r m s. (
        s.0,
        on_more Support r fam (inside_for q r sq s.0.0 m) s.1,
        all_more (λ u. Opposes T q u → IsOff got Propagating u ⊎ ¬ Beats T u r) (λ u. Opposes T q u → IsOff more Propagating u ⊎ ¬ Beats T u r) T.rules
            (λ u n a o. elim (a o) [ inl off ↦ inl (off_more Propagating u (propagating_in fam) (inside_against q u sq o n) off) | inr b ↦ inr b ]) s.2,
      ))
      h)
  condition_more false Support q fam sq h = (
    grows (tagged false Definite q) (definite_in Support fam) sq h.0,
    all_more
        (λ r. Supports q r → IsOff got Support r ⊎ Any (λ u. Opposes T q u × Beats T u r × IsOn got Propagating u) T.rules)
        (λ r. Supports q r → IsOff more Support r ⊎ Any (λ u. Opposes T q u × Beats T u r × IsOn more Propagating u) T.rules)
        T.rules
        (λ r m a s. elim (a s) [
          | inl off ↦ inl (off_more Support r fam (inside_for q r sq s.0 m) off)
          | inr b ↦ inr (any_more (λ u. Opposes T q u × Beats T u r × IsOn got Propagating u) (λ u. Opposes T q u × Beats T u r × IsOn more Propagating u) T.rules
              (λ u n o. (o.0, o.1, on_more Propagating u (propagating_in fam) (inside_against q u sq o.0 n) o.2)) b)
        ])
        h.1,
  )

  pub meets_more : (x : Tagged) → F x.family → S x.literal → Meets T got x → Meets T more x
  meets_more x = condition_more x.plus x.family x.literal
