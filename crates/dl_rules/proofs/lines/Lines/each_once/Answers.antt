use Rattle.std.proofs.Common.{ap, ◌∙◌}
use Rattle.dl_rows.specs.Counting.{each_once}
use Rattle.dl_rules.proofs.LineLemmas.{in_bodies, body_is}
use Rattle.dl_rules.proofs.lines.Lines.each_once.Goals as goal

pub at-requires : goal.at-requires
at-requires c = in_bodies c.self.inside c.self.invariant c.args.self.now c.self.view_is c.args.rule c.requires

pub returns-clause-numbers : goal.returns-clause-numbers
returns-clause-numbers c =
    c.each_once.ensures.numbers
    ∙ ap each_once (body_is c.self.inside c.self.invariant c.args.self.now c.self.view_is c.args.rule c.requires c.at.result.now c.at.ensures)
