use Rattle.std.proofs.Common.{length, sym, ap, ◌∙◌, arith}
use Rattle.dl_rows.specs.Rows.{places}
use Rattle.dl_graph.specs.Numbers.{of_rule, head_row}
use Rattle.dl_graph.proofs.FindLemmas.{opposers_are, opposers_none}
use Rattle.dl_graph.proofs.graph.Graph.opposers_len.Goals as goal

pub returns-then-number-names-clause-value : goal.returns-then-number-names-clause-value
returns-then-number-names-clause-value c = sym (ap length (opposers_none c.args.self.now c.names.ensures.numbered c.args.number (omega arith)))

pub returns-clause-value : goal.returns-clause-value
returns-clause-value c =
    c.heads_len.ensures.value
    ∙ ap (λ k. length (places (of_rule (head_row c.args.self.now)) c.args.self.now.rules k)) c.other.ensures.other
    ∙ ap length (opposers_are c.args.self.now c.names.ensures.numbered c.args.number (omega arith))
