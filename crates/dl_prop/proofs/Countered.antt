-- The conditions of support over the rules that counter one: those that beat it and whose head it attacks.
use Rattle.std.proofs.Common.{◌≡◌, get_or, inl, inr, ◌⊎◌, sym, subst}
use Rattle.std.specs.Prelude.{All, Any, Contains}
use Rattle.std.specs.Set.{is_member}
use Rattle.std.proofs.lemmas.Map.Made.{is_member-Decides}
use Rattle.dl_lit.specs.declared.literal.Literal.{Literal}
use Rattle.dl_lit.specs.declared.literal.Tagged.{Tagged}
use Rattle.dl_lit.specs.declared.literal.Family.TheVariants.{Propagating, Support}
use Rattle.dl_theory.specs.declared.rule.Rule.{Rule}
use Rattle.dl_theory.specs.declared.rule.Pair.{Pair}
use Rattle.dl_theory.specs.Lists.{TheoryLists, Supports, Beats, Opposes, attackers}
use Rattle.dl_theory.specs.Pairs.{pair_eq, pair_eq-Decides}
use Rattle.dl_theory.specs.Conditions.{IsOn, IsOff}
use Rattle.dl_theory.proofs.Deciding.{decided}
use Rattle.dl_fill.specs.Rivals.{Countering}
use Rattle.dl_fill.proofs.Attacks.{attack_turns}

module _ (T : TheoryLists) (got : Tagged → Type 0) where
  -- the rule is on, and each that counters it is off
  abbrev pub Stands : Rule → Type 0
  Stands r = IsOn got Support r × All (λ u. Countering T r u → IsOff got Propagating u) T.rules

  -- the rule is off, or one that counters it is on
  abbrev pub Falls : Rule → Type 0
  Falls r = IsOff got Support r ⊎ Any (λ u. Countering T r u × IsOn got Propagating u) T.rules

  module _ (q : Literal) where
    pub counters_opposes : (r u : Rule) → r.head ≡ q → Countering T r u → Opposes T q u
    counters_opposes r u e c = subst (λ (x : Literal). Opposes T x u) e (attack_turns T u.head r.head c.1)

    opposes_counters : (r u : Rule) → r.head ≡ q → Opposes T q u → Beats T u r → Countering T r u
    opposes_counters r u e o beats = (beats, subst (λ (x : Literal). Contains (attackers T u.head) x) (sym e) (attack_turns T q u.head o))

    pub stands_for : Any (λ r. Supports q r × Stands r) T.rules
        → Any (λ r. Supports q r × IsOn got Support r × All (λ u. Opposes T q u → IsOff got Propagating u ⊎ ¬ Beats T u r) T.rules) T.rules
    stands_for h = (
      h.0,
      h.1,
      h.2,
      h.3,
      (
        h.4.0,
        h.4.1.0,
        λ k d lt o.
            let p : Pair = record { upper = (get_or T.rules k d).label; lower = h.1.label } in
            elim (decided (is_member pair_eq T.pairs p) (is_member-Decides pair_eq-Decides T.pairs p)) [
              | inl beats ↦ inl (h.4.1.1 k d lt (opposes_counters h.1 (get_or T.rules k d) h.4.0.0 o beats))
              | inr not ↦ inr not
            ],
      ),
    )

    pub stands_by : Any (λ r. Supports q r × IsOn got Support r × All (λ u. Opposes T q u → IsOff got Propagating u ⊎ ¬ Beats T u r) T.rules) T.rules
        → Any (λ r. Supports q r × Stands r) T.rules
    stands_by h = (
      h.0,
      h.1,
      h.2,
      h.3,
      (
        h.4.0,
        (
          h.4.1,
          λ k d lt c. elim (h.4.2 k d lt (counters_opposes h.1 (get_or T.rules k d) h.4.0.0 c)) [ inl off ↦ off | inr not ↦ absurd (not c.0) ],
        ),
      ),
    )

    pub falls_for : All (λ r. Supports q r → Falls r) T.rules
        → All (λ r. Supports q r → IsOff got Support r ⊎ Any (λ u. Opposes T q u × Beats T u r × IsOn got Propagating u) T.rules) T.rules
    falls_for h k d lt s = elim (h k d lt s) [
      | inl off ↦ inl off
      | inr c ↦ inr (c.0, c.1, c.2, c.3, (counters_opposes (get_or T.rules k d) c.1 s.0 c.4.0, c.4.0.0, c.4.1))
    ]

    pub falls_by : All (λ r. Supports q r → IsOff got Support r ⊎ Any (λ u. Opposes T q u × Beats T u r × IsOn got Propagating u) T.rules) T.rules
        → All (λ r. Supports q r → Falls r) T.rules
    falls_by h k d lt s = elim (h k d lt s) [
      | inl off ↦ inl off
      | inr c ↦ inr (c.0, c.1, c.2, c.3, (opposes_counters (get_or T.rules k d) c.1 s.0 c.4.0 c.4.1, c.4.2))
    ]
