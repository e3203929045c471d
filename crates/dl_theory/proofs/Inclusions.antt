-- Each family is included in the next, in a theory without cycles.
use Rattle.std.proofs.Common.{ℕ, Bool, true, false, List, [], ◌∷◌, inl, inr, ◌⊎◌, sym, ap, map, arith}
use Rattle.std.specs.Prelude.{All, Any, Contains}
use Rattle.std.specs.Set.{is_member}
use Rattle.std.proofs.lemmas.Map.Made.{is_member-Decides}
use Rattle.std.proofs.lemmas.List.Elements.{All-contains, All-weaker, Contains-append_cases, Contains-append_right}
use Rattle.dl_lit.specs.declared.literal.Literal.{Literal}
use Rattle.dl_lit.specs.declared.literal.Tagged.{Tagged}
use Rattle.dl_lit.specs.declared.literal.Family.{Family}
use Rattle.dl_lit.specs.declared.literal.Family.TheVariants.{Definite, Blocking, Propagating, Support}
use Rattle.dl_lit.specs.Literal.{tagged}
use Rattle.dl_theory.specs.declared.rule.Rule.{Rule}
use Rattle.dl_theory.specs.declared.rule.Pair.{Pair}
use Rattle.dl_base.specs.Paths.{HasCycle}
use Rattle.dl_theory.specs.Lists.{TheoryLists, IsAbove, labels, Supports, Opposes, Beats, attackers}
use Rattle.dl_theory.specs.Pairs.{pair_eq}
use Rattle.dl_theory.specs.Conditions.{IsOn, IsOff, Fails, Condition}
use Rattle.dl_theory.specs.Derivations.{Follows}
use Rattle.dl_theory.specs.Laws.{IsInclusive}
use Rattle.dl_base.proofs.Members.{all_more, any_more}
use Rattle.dl_theory.proofs.Deciding.{decided, supports, opposes}
use Rattle.dl_theory.specs.Pairs.{pair_eq-Decides}
use Rattle.dl_theory.proofs.Steps.{follows_all}
use Rattle.dl_base.proofs.Members.{only}
use Rattle.dl_theory.proofs.Closure.{follows_over, follows_step, follows_meets}
use Rattle.dl_base.proofs.Members.{all_or_any}
use Rattle.dl_base.proofs.Climb.{climb}

pub beats : (T : TheoryLists) (t u : Rule) → Beats T t u ⊎ (¬ Beats T t u)
beats T t u =
    let p : Pair = record { upper = t.label; lower = u.label } in
    decided (is_member pair_eq T.pairs p) (is_member-Decides pair_eq-Decides T.pairs p)

-- the label of a rule is among the labels
labels_have : (rules : List Rule) (r : Rule) → Contains rules r → Contains (map (λ u. u.label) rules) r.label
labels_have [] r m = absurd (omega (arith, m.1))
labels_have (u ∷ rules) r m =
    elim (Contains-append_cases (u ∷ []) rules r m) [
      | inl one ↦ (0, omega arith, ap (λ v. v.label) (sym (only u r one)))
      | inr k ↦ Contains-append_right (u.label ∷ []) (map (λ v. v.label) rules) r.label (labels_have rules r k)
    ]

pub has_label : (T : TheoryLists) (r : Rule) → Contains T.rules r → Contains (labels T) r.label
has_label T r m = labels_have T.rules r m

-- what follows besides, by sign and family
abbrev Next : TheoryLists → Bool → Family → Literal → Type 0
Next T true Definite q = Unit {0}
Next T true Propagating q = Follows T (tagged true Blocking q)
Next T true Blocking q = Follows T (tagged true Support q)
Next T true Support q = Unit {0}
Next T false Definite q = Unit {0}
Next T false Propagating q = Unit {0}
Next T false Blocking q = Follows T (tagged false Propagating q)
Next T false Support q = Follows T (tagged false Blocking q)

abbrev Goes : TheoryLists → Tagged → Type 0
Goes T x = Follows T x × Next T x.plus x.family x.literal

module _ (T : TheoryLists) (acyclic : ¬ HasCycle (IsAbove T.pairs)) (G : Tagged → Type 0) (goes : (y : Tagged) → G y → Goes T y) where
  on_next : (f g : Family) → ((b : Literal) → G (tagged true f b) → Follows T (tagged true g b)) → (r : Rule) → IsOn G f r → IsOn (Follows T) g r
  on_next f g h r = all_more (λ b. G (tagged true f b)) (λ b. Follows T (tagged true g b)) r.body (λ b m. h b)

  off_next : (f g : Family) → ((b : Literal) → G (tagged false f b) → Follows T (tagged false g b)) → (r : Rule) → IsOff G f r → IsOff (Follows T) g r
  off_next f g h r = any_more (λ b. G (tagged false f b)) (λ b. Follows T (tagged false g b)) r.body (λ b m. h b)

  on_a_d : (r : Rule) → IsOn G Propagating r → IsOn (Follows T) Blocking r
  on_a_d = on_next Propagating Blocking (λ b g. (goes (tagged true Propagating b) g).1)

  on_d_s : (r : Rule) → IsOn G Blocking r → IsOn (Follows T) Support r
  on_d_s = on_next Blocking Support (λ b g. (goes (tagged true Blocking b) g).1)

  off_s_d : (r : Rule) → IsOff G Support r → IsOff (Follows T) Blocking r
  off_s_d = off_next Support Blocking (λ b g. (goes (tagged false Support b) g).1)

  off_d_a : (r : Rule) → IsOff G Blocking r → IsOff (Follows T) Propagating r
  off_d_a = off_next Blocking Propagating (λ b g. (goes (tagged false Blocking b) g).1)

  propagating_next : (q : Literal) → Condition T G true Propagating q → Condition T (Follows T) true Blocking q
  propagating_next q (inl d) = inl (goes (tagged true Definite q) d).0
  propagating_next q (inr h) =
      inr (record {
        supported = any_more (λ r. Supports q r × IsOn G Propagating r) (λ r. Supports q r × IsOn (Follows T) Blocking r) T.rules
            (λ r m s. (s.0, on_a_d r s.1)) h.supported;
        unopposed = all_more (λ c. G (tagged false Definite c)) (λ c. Follows T (tagged false Definite c)) (attackers T q)
            (λ c m g. (goes (tagged false Definite c) g).0) h.unopposed;
        answered = all_more
            (λ u. Opposes T q u → IsOff G Support u ⊎ Any (λ t. Supports q t × Beats T t u × IsOn G Propagating t) T.rules)
            (λ u. Opposes T q u → IsOff (Follows T) Blocking u ⊎ Any (λ t. Supports q t × Beats T t u × IsOn (Follows T) Blocking t) T.rules)
            T.rules
            (λ u m a o. elim (a o) [
              | inl off ↦ inl (off_s_d u off)
              | inr b ↦ inr (any_more (λ t. Supports q t × Beats T t u × IsOn G Propagating t) (λ t. Supports q t × Beats T t u × IsOn (Follows T) Blocking t) T.rules
                  (λ t n s. (s.0, s.1, on_a_d t s.2)) b)
            ]) h.answered;
      })

  refuted_next : (q : Literal) → Condition T G false Blocking q → Condition T (Follows T) false Propagating q
  refuted_next q h = ((goes (tagged false Definite q) h.0).0, fails h.1)
    where
      fails : Fails T G Blocking Blocking q → Fails T (Follows T) Propagating Support q
      fails (inl unsupported) =
          inl (all_more (λ r. Supports q r → IsOff G Blocking r) (λ r. Supports q r → IsOff (Follows T) Propagating r) T.rules
          (λ r m a s. off_d_a r (a s)) unsupported)
      fails (inr (inl attacked)) =
          inr (inl (any_more (λ c. G (tagged true Definite c)) (λ c. Follows T (tagged true Definite c)) (attackers T q)
          (λ c m g. (goes (tagged true Definite c) g).0) attacked))
      fails (inr (inr defeated)) =
          inr (inr (any_more
          (λ u. Opposes T q u × IsOn G Blocking u × All (λ t. Supports q t → IsOff G Blocking t ⊎ ¬ Beats T t u) T.rules)
          (λ u. Opposes T q u × IsOn (Follows T) Support u × All (λ t. Supports q t → IsOff (Follows T) Propagating t ⊎ ¬ Beats T t u) T.rules)
          T.rules
          (λ u m d. (
            d.0,
            on_d_s u d.1,
            all_more (λ t. Supports q t → IsOff G Blocking t ⊎ ¬ Beats T t u) (λ t. Supports q t → IsOff (Follows T) Propagating t ⊎ ¬ Beats T t u) T.rules
                (λ t n a s. elim (a s) [ inl off ↦ inl (off_d_a t off) | inr safe ↦ inr safe ]) d.2,
          ))
          defeated))

  blocking_next : (q : Literal) → Condition T G true Blocking q → Condition T (Follows T) true Support q
  blocking_next q (inl d) = inl (goes (tagged true Definite q) d).0
  blocking_next q (inr h) =
      let s = h.supported in
      let top = climb (IsAbove T.pairs) acyclic (λ r. r.label) (labels T) Good Ends (λ r g. has_label T r g.0) step s.1 ((s.0, s.2, s.3), s.4.0, s.4.1) in
      let e = top.0 in
      let m = top.1.0 in
      inr (
        m.0,
        e,
        m.1,
        m.2,
        (
          top.1.1,
          on_d_s e top.1.2,
          all_more (λ u. Opposes T q u → IsOff G Blocking u ⊎ ¬ Beats T u e) (λ u. Opposes T q u → IsOff (Follows T) Propagating u ⊎ ¬ Beats T u e) T.rules
              (λ u n a o. elim (a o) [ inl off ↦ inl (off_d_a u off) | inr safe ↦ inr safe ]) top.2,
        ),
      )
    where
      Good : Rule → Type 0
      Good r = Contains T.rules r × Supports q r × IsOn G Blocking r

      Ends : Rule → Type 0
      Ends r = All (λ u. Opposes T q u → IsOff G Blocking u ⊎ ¬ Beats T u r) T.rules

      Safe : Rule → Rule → Type 0
      Safe r u = Opposes T q u → IsOff G Blocking u ⊎ ¬ Beats T u r

      Beaten : Rule → Rule → Type 0
      Beaten r u = Beats T u r × Any (λ t. Supports q t × Beats T t u × IsOn G Blocking t) T.rules

      judge : (r u : Rule) → Contains T.rules u → Safe r u ⊎ Beaten r u
      judge r u m =
          elim (opposes T q u) as (λ _. Safe r u ⊎ Beaten r u) [
            | inr none ↦ inl (λ o. absurd (none o))
            | inl o ↦ elim (All-contains (λ v. Opposes T q v → IsOff G Blocking v ⊎ Any (λ t. Supports q t × Beats T t v × IsOn G Blocking t) T.rules) T.rules u h.answered m o) as (λ _. Safe r u ⊎ Beaten r u) [
              | inl off ↦ inl (λ _. inl off)
              | inr b ↦ elim (beats T u r) as (λ _. Safe r u ⊎ Beaten r u) [ inl up ↦ inr (up, b) | inr safe ↦ inl (λ _. inr safe) ]
            ]
          ]

      step : (r : Rule) → Good r → Ends r ⊎ ((t : Rule) × (u : List ℕ) × Good t × Contains (labels T) u × IsAbove T.pairs t.label u × IsAbove T.pairs u r.label)
      step r good =
          elim (all_or_any (Safe r) (Beaten r) T.rules (judge r)) [
            | inl all ↦ inl all
            | inr any ↦
                let t = any.4.1 in
                inr (t.1, any.1.label, ((t.0, t.2, t.3), t.4.0, t.4.2), has_label T any.1 (any.0, any.2, any.3), t.4.1, any.4.0)
          ]

  support_next : (q : Literal) → Condition T G false Support q → Condition T (Follows T) false Blocking q
  support_next q h = ((goes (tagged false Definite q) h.0).0, fails (all_or_any Off Beaten T.rules judge))
    where
      Off : Rule → Type 0
      Off r = Supports q r → IsOff G Support r

      Beaten : Rule → Type 0
      Beaten r = Any (λ u. Opposes T q u × Beats T u r × IsOn G Propagating u) T.rules

      judge : (r : Rule) → Contains T.rules r → Off r ⊎ Beaten r
      judge r m =
          elim (supports q r) as (λ _. Off r ⊎ Beaten r) [
            | inr none ↦ inl (λ s. absurd (none s))
            | inl s ↦ elim (All-contains (λ v. Supports q v → IsOff G Support v ⊎ Beaten v) T.rules r h.1 m s) as (λ _. Off r ⊎ Beaten r) [
              | inl off ↦ inl (λ _. off)
              | inr b ↦ inr b
            ]
          ]

      Good : Rule → Type 0
      Good u = Contains T.rules u × Opposes T q u × IsOn G Propagating u

      Safe : Rule → Rule → Type 0
      Safe u t = Supports q t → IsOff G Support t ⊎ ¬ Beats T t u

      Ends : Rule → Type 0
      Ends u = All (Safe u) T.rules

      Above : Rule → Rule → Type 0
      Above u t = Beats T t u × Beaten t

      choose : (u t : Rule) → Contains T.rules t → Safe u t ⊎ Above u t
      choose u t m =
          elim (judge t m) as (λ _. Safe u t ⊎ Above u t) [
            | inl off ↦ inl (λ s. inl (off s))
            | inr b ↦ elim (beats T t u) as (λ _. Safe u t ⊎ Above u t) [ inl up ↦ inr (up, b) | inr safe ↦ inl (λ _. inr safe) ]
          ]

      step : (u : Rule) → Good u → Ends u ⊎ ((v : Rule) × (t : List ℕ) × Good v × Contains (labels T) t × IsAbove T.pairs v.label t × IsAbove T.pairs t u.label)
      step u good =
          elim (all_or_any (Safe u) (Above u) T.rules (choose u)) [
            | inl all ↦ inl all
            | inr any ↦
                let v = any.4.1 in
                inr (v.1, any.1.label, ((v.0, v.2, v.3), v.4.0, v.4.2), has_label T any.1 (any.0, any.2, any.3), v.4.1, any.4.0)
          ]

      fails : All Off T.rules ⊎ Any Beaten T.rules → Fails T (Follows T) Blocking Blocking q
      fails (inl all) =
          inl (all_more Off (λ r. Supports q r → IsOff (Follows T) Blocking r) T.rules (λ r m off s. off_s_d r (off s)) all)
      fails (inr any) =
          let u = any.4 in
          let top = climb (IsAbove T.pairs) acyclic (λ r. r.label) (labels T) Good Ends (λ r g. has_label T r g.0) step u.1 ((u.0, u.2, u.3), u.4.0, u.4.2) in
          let e = top.0 in
          let m = top.1.0 in
          inr (inr (
            m.0,
            e,
            m.1,
            m.2,
            (
              top.1.1,
              on_a_d e top.1.2,
              all_more (Safe e) (λ t. Supports q t → IsOff (Follows T) Blocking t ⊎ ¬ Beats T t e) T.rules
                  (λ t n a s. elim (a s) [ inl off ↦ inl (off_s_d t off) | inr safe ↦ inr safe ]) top.2,
            ),
          ))

  next : (p : Bool) (f : Family) (q : Literal) → Condition T G p f q → Next T p f q
  next true Definite q h = tt
  next true Propagating q h = follows_step T (Follows T) (λ y g. g) (tagged true Blocking q) (propagating_next q h)
  next true Blocking q h = follows_step T (Follows T) (λ y g. g) (tagged true Support q) (blocking_next q h)
  next true Support q h = tt
  next false Definite q h = tt
  next false Propagating q h = tt
  next false Blocking q h = follows_step T (Follows T) (λ y g. g) (tagged false Propagating q) (refuted_next q h)
  next false Support q h = follows_step T (Follows T) (λ y g. g) (tagged false Blocking q) (support_next q h)

module _ (T : TheoryLists) (acyclic : ¬ HasCycle (IsAbove T.pairs)) where
  goes_on : (x : Tagged) → Follows T x → Goes T x
  goes_on =
      follows_all T (Goes T) (λ done x all meets. (
        follows_over T done x (All-weaker (Goes T) (Follows T) (λ y g. g.0) done all) meets,
        next T acyclic (Contains done) (λ y m. All-contains (Goes T) done y all m) x.plus x.family x.literal meets,
      ))

  pub is_inclusive : IsInclusive T
  is_inclusive = record {
    plus_definite = λ q f. follows_step T (Follows T) (λ y g. g) (tagged true Propagating q) (inl f);
    plus_propagating = λ q f. (goes_on (tagged true Propagating q) f).1;
    plus_blocking = λ q f. (goes_on (tagged true Blocking q) f).1;
    minus_support = λ q f. (goes_on (tagged false Support q) f).1;
    minus_blocking = λ q f. (goes_on (tagged false Blocking q) f).1;
    minus_propagating = λ q f. (follows_meets T (tagged false Propagating q) f).0;
  }
