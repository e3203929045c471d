use Rattle.dl_rules.proofs.LineLemmas.{in_heads, head_is}
use Rattle.dl_rules.proofs.ThereLemmas.{there_within}
use Rattle.dl_rules.proofs.lines.Lines.head.Goals as goal

pub at-requires : goal.at-requires
at-requires c =
    in_heads c.self.inside c.self.invariant c.args.self.now c.self.view_is c.args.rule (there_within c.args.self.now.items c.args.rule c.requires)

pub returns : goal.returns
returns c = head_is c.self.inside c.self.invariant c.args.self.now c.self.view_is c.args.rule c.at.result.now c.requires c.at.ensures
