use Rattle.std.proofs.Common.{[], ◌∷◌, ◌++◌, Some, ap, ◌∙◌}
use Rattle.dl_rules.specs.Lines.{Line}
use Rattle.dl_rules.proofs.LineLemmas.{items_pushed}
use Rattle.dl_rules.proofs.lines.Lines.push.Goals as goal

pub returns : goal.returns
returns c =
    items_pushed c.self.inside c.self.invariant c.args.self.now c.self.view_is
    c.of.result c.entry.inside.kind c.entry.inside.head c.entry.inside.body
    c.push.new.self.items c.push-2.new.self.items c.push-3.new.self.items c.of.ensures c.push.ensures.items c.push-2.ensures.items c.push-3.ensures.items
    ∙ ap (λ (l : Line). c.args.self.now.items ++ Some l ∷ []) c.entry.view_is
