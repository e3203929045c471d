-- What nodes mean, by what counts as derived.
use Rattle.std.specs.Prelude.{ℕ, ◌<◌, Bool, length, All, Any, ◌⊎◌}
use Rattle.dl_lit.specs.declared.literal.Tagged.{Tagged}
use Rattle.dl_lit.specs.declared.literal.Family.{Family}
use Rattle.dl_lit.specs.Literal.{tagged}
use Rattle.dl_theory.specs.declared.rule.Rule.{Rule}
use Rattle.dl_theory.specs.Lists.{Supports}
use Rattle.dl_theory.specs.Conditions.{IsOn, IsOff}
use Rattle.dl_graph.specs.Numbers.{NetLists, HasRule, literal_at, rule_at}
use Rattle.dl_fill.specs.Rivals.{Defending}

module _ (N : NetLists) (got : Tagged → Type 0) where
  -- the literal is concluded, or refuted
  abbrev pub HasTag : Bool → Family → ℕ → Type 0
  HasTag plus f q = (q < length N.names) × got (tagged plus f (literal_at N q))

  -- each body literal of the rule is concluded
  abbrev pub IsOnAt : Family → ℕ → Type 0
  IsOnAt f r = HasRule N r × IsOn got f (rule_at N r)

  -- some body literal of the rule is refuted
  abbrev pub IsOffAt : Family → ℕ → Type 0
  IsOffAt f r = HasRule N r × IsOff got f (rule_at N r)

  -- some rule that supports the literal is on
  abbrev pub IsSupported : Family → ℕ → Type 0
  IsSupported f q = (q < length N.names) × Any (λ r. Supports (literal_at N q) r × IsOn got f r) N.theory.rules

  -- each rule that supports the literal is off
  abbrev pub IsUnsupported : Family → ℕ → Type 0
  IsUnsupported f q = (q < length N.names) × All (λ r. Supports (literal_at N q) r → IsOff got f r) N.theory.rules

  -- the rule is off in the family that it is judged by, or one of its rivals is on
  abbrev pub IsAnsweredBy : (Rule → Rule → Type 0) → Family → Family → ℕ → Type 0
  IsAnsweredBy Rival f against u =
      HasRule N u × (IsOff got against (rule_at N u) ⊎ Any (λ t. Rival (rule_at N u) t × IsOn got f t) N.theory.rules)

  -- the rule is on in the family that it is judged by, and each of its rivals is off
  abbrev pub IsUnansweredBy : (Rule → Rule → Type 0) → Family → Family → ℕ → Type 0
  IsUnansweredBy Rival f against u =
      HasRule N u
      × (IsOn got against (rule_at N u) × All (λ t. Rival (rule_at N u) t → IsOff got f t) N.theory.rules)

  -- an attacker is off, or a rule that defends its head against it is on
  abbrev pub IsAnswered : Family → Family → ℕ → Type 0
  IsAnswered f against u = IsAnsweredBy (Defending N.theory) f against u

  -- an attacker is on, and each rule that defends its head against it is off
  abbrev pub IsUnanswered : Family → Family → ℕ → Type 0
  IsUnanswered f against u = IsUnansweredBy (Defending N.theory) f against u
