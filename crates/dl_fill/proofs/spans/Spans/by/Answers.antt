use Rattle.std.proofs.Common.{ap, sym, ◌∙◌}
use Rattle.std.proofs.lemmas.Option.{get_or_from_slice_get}
use Rattle.dl_graph.specs.declared.link.Link.TheVariants.{Same}
use Rattle.dl_fill.specs.declared.wire.Wire.{Wire}
use Rattle.dl_fill.specs.Spans.{side}
use Rattle.dl_fill.proofs.Spanning.{none_spanned}
use Rattle.dl_fill.proofs.spans.Spans.by.Goals as goal

abbrev blank : Wire
blank = record { from = 0; link = Same; to = 0 }

pub loop-at-init : goal.loop-at-init
loop-at-init c = none_spanned (side c.args.to) c.args.wires.now

pub loop-at-preserved : goal.loop-at-preserved
loop-at-preserved c =
    c.widen.ensures (side c.args.to) c.args.wires.now c.loop-at.invariant
    (λ w e. sym (c.kind_of.ensures ∙ ap (side c.args.to) (get_or_from_slice_get c.args.wires.now c.loop-at.at w blank e)))
