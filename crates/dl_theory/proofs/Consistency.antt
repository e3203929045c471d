-- In blocking and in propagating, attacking literals are both proved only where both are definite, in a theory without cycles.
use Rattle.std.proofs.Common.{◌≡◌, ℕ, true, false, List, inl, inr, ◌⊎◌, sym, subst, ap, ◌∙◌, arith}
use Rattle.std.specs.Prelude.{Any, Contains}
use Rattle.std.proofs.lemmas.List.Elements.{All-contains}
use Rattle.dl_lit.specs.declared.literal.Literal.{Literal}
use Rattle.dl_lit.specs.declared.literal.Family.{Family}
use Rattle.dl_lit.specs.declared.literal.Family.TheVariants.{Definite, Blocking, Propagating, Support}
use Rattle.dl_lit.specs.Literal.{tagged, complement}
use Rattle.dl_theory.specs.declared.rule.Rule.{Rule}
use Rattle.dl_base.specs.Paths.{HasCycle}
use Rattle.dl_theory.specs.Lists.{TheoryLists, IsAbove, labels, Supports, Opposes, Beats, attackers}
use Rattle.dl_theory.specs.Conditions.{IsOn, IsOff, Prevails}
use Rattle.dl_theory.specs.Derivations.{Follows}
use Rattle.dl_theory.specs.Laws.{IsConsistent}
use Rattle.dl_theory.proofs.Clashes.{all_any}
use Rattle.dl_theory.proofs.Steps.{is_coherent}
use Rattle.dl_base.proofs.Members.{only}
use Rattle.dl_theory.proofs.Closure.{complement_twice, follows_meets}
use Rattle.dl_base.proofs.Climb.{climb}
use Rattle.dl_theory.proofs.Inclusions.{has_label, is_inclusive}

-- attack goes both ways
pub attacks_back : (T : TheoryLists) (q c : Literal) → Contains (attackers T q) c → Contains (attackers T c) q
attacks_back T q c m = (0, omega arith, ap complement (only (complement q) c m) ∙ complement_twice q)

module _ (T : TheoryLists) (acyclic : ¬ HasCycle (IsAbove T.pairs)) where
  on_or_off : (f against : Family) → ((b : Literal) → Follows T (tagged true f b) → Follows T (tagged true against b)) → (r : Rule)
      → IsOn (Follows T) f r → IsOff (Follows T) against r → ⊥
  on_or_off f against goes r =
      all_any (λ b. Follows T (tagged true f b)) (λ b. Follows T (tagged false against b)) r.body
      (λ b plus minus. is_coherent T (tagged true against b) (goes b plus) minus)

  module _ (f against : Family) (goes : (b : Literal) → Follows T (tagged true f b) → Follows T (tagged true against b))
      (q c : Literal) (attack : Contains (attackers T q) c) (for_q : Prevails T (Follows T) f against q) (for_c : Prevails T (Follows T) f against c) where
    -- a rule that is on for one of the two is beaten by one that is on for the other
    beaten : (x y : Literal) → Contains (attackers T y) x → Prevails T (Follows T) f against y → (r : Rule) → Contains T.rules r → r.head ≡ x → IsOn (Follows T) f r
        → Any (λ t. Supports y t × Beats T t r × IsOn (Follows T) f t) T.rules
    beaten x y attacks h r m e on =
        elim (All-contains (λ u. Opposes T y u → IsOff (Follows T) against u ⊎ Any (λ t. Supports y t × Beats T t u × IsOn (Follows T) f t) T.rules) T.rules r h.answered m
        (subst (λ (z : Literal). Contains (attackers T y) z) (sym e) attacks)) [
          | inl off ↦ absurd (on_or_off f against goes r on off)
          | inr b ↦ b
        ]

    Good : Rule → Type 0
    Good r = Contains T.rules r × Supports q r × IsOn (Follows T) f r

    step : (r : Rule) → Good r → ⊥ ⊎ ((v : Rule) × (t : List ℕ) × Good v × Contains (labels T) t × IsAbove T.pairs v.label t × IsAbove T.pairs t r.label)
    unfolding Good
    step r good =
        let t = beaten q c (attacks_back T q c attack) for_c r good.0 good.1.0 good.2 in
        let v = beaten c q attack for_q t.1 (t.0, t.2, t.3) t.4.0.0 t.4.2 in
        inr (v.1, t.1.label, ((v.0, v.2, v.3), v.4.0, v.4.2), has_label T t.1 (t.0, t.2, t.3), v.4.1, t.4.1)

    not_both : ⊥
    unfolding Good
    not_both =
        let s = for_q.supported in
        (climb (IsAbove T.pairs) acyclic (λ r. r.label) (labels T) Good (λ _. ⊥) (λ r g. has_label T r g.0) step s.1 ((s.0, s.2, s.3), s.4.0, s.4.1)).2

  settle : (f against : Family) → ((b : Literal) → Follows T (tagged true f b) → Follows T (tagged true against b)) → (q c : Literal) → Contains (attackers T q) c
      → (Follows T (tagged true Definite q) ⊎ Prevails T (Follows T) f against q) → (Follows T (tagged true Definite c) ⊎ Prevails T (Follows T) f against c)
      → Follows T (tagged true Definite q) × Follows T (tagged true Definite c)
  settle f against goes q c attack (inl d) (inl e) = (d, e)
  settle f against goes q c attack (inl d) (inr h) =
      absurd (is_coherent T (tagged true Definite q) d
      (All-contains (λ x. Follows T (tagged false Definite x)) (attackers T c) q h.unopposed (attacks_back T q c attack)))
  settle f against goes q c attack (inr h) (inl e) =
      absurd (is_coherent T (tagged true Definite c) e (All-contains (λ x. Follows T (tagged false Definite x)) (attackers T q) c h.unopposed attack))
  settle f against goes q c attack (inr h) (inr k) = absurd (not_both f against goes q c attack h k)

  pub is_consistent : IsConsistent T
  is_consistent Definite q c f attack p r = elim f [ inl e ↦ cc | inr e ↦ cc ]
  is_consistent Blocking q c f attack p r =
      settle Blocking Blocking (λ b h. h) q c attack (follows_meets T (tagged true Blocking q) p) (follows_meets T (tagged true Blocking c) r)
  is_consistent Propagating q c f attack p r =
      let rules = is_inclusive T acyclic in
      settle Propagating Support (λ b h. rules.plus_blocking b (rules.plus_propagating b h)) q c attack
      (follows_meets T (tagged true Propagating q) p) (follows_meets T (tagged true Propagating c) r)
  is_consistent Support q c f attack p r = elim f [ inl e ↦ cc | inr e ↦ cc ]
