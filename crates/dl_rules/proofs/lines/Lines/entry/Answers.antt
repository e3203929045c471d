use Rattle.std.proofs.Common.{◌<◌, length, ◌∙◌}
use Rattle.dl_rules.proofs.LineLemmas.{in_bodies, body_is}
use Rattle.dl_rules.proofs.ThereLemmas.{there_within}
use Rattle.dl_rules.proofs.lines.Lines.entry.Goals as goal

pub at-requires : goal.at-requires
at-requires c =
    in_bodies c.self.inside c.self.invariant c.args.self.now c.self.view_is c.args.rule (there_within c.args.self.now.items c.args.rule c.requires)

pub returns : goal.returns
returns c =
    let within : c.args.rule < length c.args.self.now.items = there_within c.args.self.now.items c.args.rule c.requires in
    let body = c.in_ok-body.ensures.cases ∙ body_is c.self.inside c.self.invariant c.args.self.now c.self.view_is c.args.rule within c.at.result.now c.at.ensures in
    λ i. record { kind = c.kind.ensures i; head = c.head.ensures i; body = body i }
