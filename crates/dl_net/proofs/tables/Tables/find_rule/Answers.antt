use Rattle.std.proofs.Common.{◌≡◌, ℕ, Option, None, Some, [], get_or, sym, subst, ◌∙◌}
use Rattle.std.specs.Prelude.{IfSome}
use Rattle.dl_graph.specs.Numbers.{NetLists, HasRule, rule_at}
use Rattle.dl_graph.proofs.TableLemmas.{label_here}
use Rattle.dl_net.specs.Kept.{lists_of, net_in}
use Rattle.dl_net.proofs.tables.Tables.find_rule.Goals as goal

pub returns-clause-label : goal.returns-clause-label
returns-clause-label c =
    let N = net_in c.args.self.now in
    let label = c.args.label.now in
    let there : IfSome c.find_rule.result (λ r. HasRule N r) = subst (λ (M : NetLists). IfSome c.find_rule.result (λ r. HasRule M r)) c.graph.ensures c.find_rule.ensures.there in
    let is : IfSome c.find_rule.result (λ r. (rule_at N r).label ≡ label) =
    subst (λ (M : NetLists). IfSome c.find_rule.result (λ r. (rule_at M r).label ≡ label)) c.graph.ensures c.find_rule.ensures.label in
    by c.find_rule.result there is
  where
    by : (o : Option ℕ) → IfSome o (λ r. HasRule (net_in c.args.self.now) r) → IfSome o (λ r. (rule_at (net_in c.args.self.now) r).label ≡ c.args.label.now)
        → IfSome o (λ r. get_or c.args.self.now.labels.labels r [] ≡ c.args.label.now)
    by None there is = tt
    by (Some r) there is = sym (label_here (lists_of c.args.self.now) c.requires.tables r there) ∙ is
