use Rattle.std.proofs.Common.{◌∙◌, arith}
use Rattle.dl_rules.proofs.LineLemmas.{items_length, kind_is, kind_past}
use Rattle.dl_rules.proofs.lines.Lines.find.Goals as goal

pub returns-then-rule-len : goal.returns-then-rule-len
returns-then-rule-len c =
    kind_past c.self.inside c.self.invariant c.args.self.now c.self.view_is c.args.rule
    (omega (arith, c.if-rule-len.true, c.len.ensures.items, items_length c.self.inside c.self.invariant c.args.self.now c.self.view_is))

pub returns : goal.returns
returns c =
    c.kind.ensures
    ∙ kind_is c.self.inside c.self.invariant c.args.self.now c.self.view_is c.args.rule
    (omega (arith, c.if-rule-len.false, c.len.ensures.items, items_length c.self.inside c.self.invariant c.args.self.now c.self.view_is))
    c.at.result.now c.at.ensures
