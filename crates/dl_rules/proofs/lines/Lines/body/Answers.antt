use Rattle.std.proofs.Common.{◌∙◌}
use Rattle.dl_rules.proofs.LineLemmas.{in_bodies, body_is}
use Rattle.dl_rules.proofs.lines.Lines.body.Goals as goal

pub at-requires : goal.at-requires
at-requires c = in_bodies c.self.inside c.self.invariant c.args.self.now c.self.view_is c.args.rule c.requires

pub returns : goal.returns
returns c = c.as_slice.ensures ∙ body_is c.self.inside c.self.invariant c.args.self.now c.self.view_is c.args.rule c.requires c.at.result.now c.at.ensures
