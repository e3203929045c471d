use Rattle.std.proofs.Common.{[], length, cond, sym, ap, ◌∙◌}
use Rattle.dl_rows.specs.Rows.{row}
use Rattle.dl_graph.specs.Numbers.{of_rule, lowers_row}
use Rattle.dl_graph.proofs.RowLemmas.{row_defends}
use Rattle.dl_graph.proofs.graph.Graph.defended_len.Goals as goal

pub returns-then-supports : goal.returns-then-supports
returns-then-supports c =
    c.lower_len.ensures
    ∙ sym (ap length (row_defends c.args.self.now c.args.rule
    ∙ ap (λ b. cond b (row (of_rule (lowers_row c.args.self.now)) c.args.self.now.rules c.args.rule) []) (sym c.supports.ensures ∙ c.if-supports.true)))

pub returns-else-supports : goal.returns-else-supports
returns-else-supports c =
    sym (ap length (row_defends c.args.self.now c.args.rule
    ∙ ap (λ b. cond b (row (of_rule (lowers_row c.args.self.now)) c.args.self.now.rules c.args.rule) []) (sym c.supports.ensures ∙ c.if-supports.false)))
