-- Which rules a rule defends its head against.
use Rattle.std.proofs.Common.{◌≡◌, ℕ, Option, None, Some, List, [], refl, sym, ap, ◌∙◌, cond}
use Rattle.std.specs.Prelude.{get_or, unwrap_or}
use Rattle.dl_theory.specs.declared.rule.Rule.{Rule}
use Rattle.dl_theory.specs.Lists.{can_support}
use Rattle.dl_rows.specs.Rows.{row}
use Rattle.dl_graph.specs.Numbers.{NetLists, no_rule, rule_at, of_rule, lowers_row, defends_row}
use Rattle.dl_graph.proofs.Slots.{row_at}

defends : (N : NetLists) (o : Option Rule) → of_rule (defends_row N) o ≡ cond (can_support (unwrap_or o no_rule).kind) (of_rule (lowers_row N) o) []
defends N None = refl
defends N (Some r) = refl

pub row_defends : (N : NetLists) (k : ℕ)
    → row (of_rule (defends_row N)) N.rules k ≡ cond (can_support (rule_at N k).kind) (row (of_rule (lowers_row N)) N.rules k) []
row_defends N k =
    row_at (defends_row N) N.rules k
    ∙ defends N (get_or N.rules k None)
    ∙ ap (λ (xs : List ℕ). cond (can_support (rule_at N k).kind) xs []) (sym (row_at (lowers_row N) N.rules k))
