use Rattle.std.proofs.Common.{arith, sym, ◌∙◌}
use Rattle.dl_derive.proofs.Wanting.{none_for, no_members, some_member}
use Rattle.dl_derive.proofs.sure.sure_for.Goals as goal

pub sure_way-requires-clause-width : goal.sure_way-requires-clause-width
sure_way-requires-clause-width g c = rw (c.width.ensures.width) (omega (arith, c.width.ensures.sound.table.rules))

pub returns-then-is_empty-clause-sure : goal.returns-then-is_empty-clause-sure
returns-then-is_empty-clause-sure g c =
    rw (c.new.ensures.items)
    (none_for c.args.net.now c.args.marks.now c.args.region.now g.G.FamilyGates.table.width g.G.FamilyGates.table.bases
    c.args.nodes.now (sym c.bases-bases.ensures ∙ no_members c.bases-bases.result.now c.is_empty.result c.is_empty.ensures c.if-is_empty.true))

pub returns-clause-sure : goal.returns-clause-sure
returns-clause-sure g c = rw (c.width.ensures.width, c.bases-bases.ensures) at c.in_ok-sure.ensures

pub returns-clause-none : goal.returns-clause-none
returns-clause-none g c = λ none.
    absurd (some_member c.bases-bases.result.now c.is_empty.result c.is_empty.ensures c.if-is_empty.false (c.bases-bases.ensures ∙ none))
