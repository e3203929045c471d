use Rattle.std.proofs.Common.{sym, refl, ◌∙◌, arith}
use Rattle.dl_graph.proofs.OccursLemmas.{occurs_fact, occurs_head, occurs_use, occurs_none}
use Rattle.dl_graph.proofs.graph.Graph.occurs.Goals as goal

pub returns-then-is_fact : goal.returns-then-is_fact
returns-then-is_fact c = (
  λ e. occurs_fact c.args.self.now c.names-count.ensures.numbered c.args.number c.requires (sym c.is_fact.ensures ∙ c.if-is_fact.true),
  λ m. refl,
)

pub returns-then-heads_len-gt0 : goal.returns-then-heads_len-gt0
returns-then-heads_len-gt0 c = (
  λ e. occurs_head c.args.self.now c.names-count.ensures.numbered c.args.number c.requires (omega (arith, c.heads_len.ensures.value)),
  λ m. refl,
)

pub returns-then-uses_len-gt0 : goal.returns-then-uses_len-gt0
returns-then-uses_len-gt0 c = (
  λ e. occurs_use c.args.self.now c.names-count.ensures.numbered c.args.number c.requires (omega (arith, c.uses_len.ensures)),
  λ m. refl,
)

pub returns : goal.returns
returns c = (
  λ e. cc,
  λ m. absurd (occurs_none c.args.self.now c.names-count.ensures.numbered c.args.number c.requires (sym c.is_fact.ensures ∙ c.if-is_fact.false)
      (omega (arith, c.heads_len.ensures.value)) (omega (arith, c.uses_len.ensures)) m),
)
