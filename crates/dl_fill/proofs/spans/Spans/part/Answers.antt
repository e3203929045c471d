use Rattle.dl_fill.proofs.Spanning.{part_makes}
use Rattle.dl_fill.proofs.spans.Spans.part.Goals as goal

pub returns-clause-same : goal.returns-clause-same
returns-clause-same c = λ of h f other. part_makes of f c.args.kind other c.args.wires.now c.args.self.now h c.if-kind-ge-KINDS.false
