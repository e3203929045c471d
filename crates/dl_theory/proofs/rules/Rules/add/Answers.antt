use Rattle.std.proofs.Common.{◌≡◌, ℕ, List, map, ap, subst, ◌∙◌}
use Rattle.std.specs.Prelude.{Contains, IfOk, MatchOption}
use Rattle.dl_theory.specs.declared.rule.Rule.{Rule}
use Rattle.dl_theory.proofs.rules.Rules.add.Goals as goal

pub returns-clause-added : goal.returns-clause-added
returns-clause-added c =
    subst (λ (ls : List (List ℕ)). IfOk c.add_rule.result (λ back. MatchOption back (Contains ls c.args.rule.label → ⊥) (λ given. (given ≡ c.args.rule) × Contains ls c.args.rule.label)))
    (c.self.invariant ∙ ap (λ (us : List Rule). map (λ u. u.label) us) c.self.view_is)
    (subst (λ (l : List ℕ). IfOk c.add_rule.result (λ back. MatchOption back (Contains c.self.inside.labels.keys l → ⊥) (λ given. (given ≡ c.args.rule) × Contains c.self.inside.labels.keys l)))
    c.in_ok-label.ensures c.add_rule.ensures.added)
