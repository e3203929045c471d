use Rattle.std.proofs.Common.{ℕ, Option, List, false, get_or, set, ap, ◌∙◌}
use Rattle.dl_pages.specs.Paged.{PagedItems}
use Rattle.dl_rules.specs.Lines.{Line}
use Rattle.dl_rules.proofs.LineLemmas.{items_gone, both_parts}
use Rattle.dl_rules.proofs.lines.Lines.clear.Goals as goal

pub put-kind-requires : goal.put-kind-requires
put-kind-requires c =
    (both_parts c.self.inside.slots.owned c.self.inside.bodies.owned c.args.rule
    (ap (λ (v : PagedItems (Option Line)). get_or v.owned c.args.rule false) c.self.view_is ∙ c.requires)).0

pub put-body-requires : goal.put-body-requires
put-body-requires c =
    (both_parts c.self.inside.slots.owned c.self.inside.bodies.owned c.args.rule
    (ap (λ (v : PagedItems (Option Line)). get_or v.owned c.args.rule false) c.self.view_is ∙ c.requires)).1

pub returns : goal.returns
returns c =
    items_gone c.self.inside c.self.invariant c.args.self.now c.self.view_is c.args.rule
    c.put-kind.new.self.items c.put-body.new.self.items c.put-kind.ensures.items
    (c.put-body.ensures.items ∙ ap (λ (b : List ℕ). set c.self.inside.bodies.items c.args.rule b) c.none.ensures)
