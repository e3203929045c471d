use Rattle.dl_rules.proofs.LineLemmas.{in_heads}
use Rattle.dl_rules.proofs.lines.Lines.meet.Goals as goal

pub at-requires : goal.at-requires
at-requires c = in_heads c.self.inside c.self.invariant c.args.self.now c.self.view_is c.args.lower c.requires.lower

pub at-requires-2 : goal.at-requires-2
at-requires-2 c = in_heads c.self.inside c.self.invariant c.args.self.now c.self.view_is c.args.upper c.requires.upper
