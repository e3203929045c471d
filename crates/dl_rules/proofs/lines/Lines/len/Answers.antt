use Rattle.std.proofs.Common.{◌∙◌}
use Rattle.dl_rules.proofs.LineLemmas.{items_length}
use Rattle.dl_rules.proofs.lines.Lines.len.Goals as goal

pub returns : goal.returns
returns c = c.len.ensures.items ∙ items_length c.self.inside c.self.invariant c.args.self.now c.self.view_is
