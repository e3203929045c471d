use Rattle.std.proofs.Common.{length, arith, ap, ◌∙◌, get_or, ◌/◌}
use Rattle.dl_graph.specs.Numbers.{next}
use Rattle.dl_graph.specs.declared.link.Link.TheVariants.{Same}
use Rattle.dl_fill.specs.Wires.{through}
use Rattle.dl_fill.specs.declared.wire.Wire.{Wire}
use Rattle.dl_fill.specs.Pruned.{Asking}
use Rattle.dl_fill.proofs.Hits.{edge_in}
use Rattle.dl_fill.proofs.Serving.{length-serves, ask_serves, ask_skips}
use Rattle.dl_fill.proofs.backward.ask.Goals as goal
use Rattle.dl_fill.proofs.backward.ask.Goals.{then-w-node, else-w-node}

abbrev blank : Wire
blank = record { from = 0; link = Same; to = 0 }

pub ask_link-requires : goal.ask_link-requires
ask_link-requires c = λ y h.
    let inside = c.requires.inside y (edge_in c.args.net.now c.args.width c.args.node c.args.wires.now c.loop-w.w-index blank y c.loop-w-test.true c.if-w-node.true h) in
    omega (arith, inside, c.loop-w.invariant.size)

pub loop-w-preserved : goal.loop-w-preserved
loop-w-preserved c =
    elim c.if-w-node.branch [
      | then-w-node w ↦
          let s = ask_serves c.args.net.now c.args.width c.args.node c.args.needs.now c.args.wires.now c.loop-w.w-index blank c.loop-w-test.true w.if-w-node.true in
          let x : Wire = get_or c.args.wires.now c.loop-w.w-index blank in
          record {
            needs = cc (s, w.ask_link.ensures, c.loop-w.invariant.needs, w.needs-is);
            size =
                ap (λ (a : Asking). length a.needs) (w.needs-is ∙ w.ask_link.ensures)
                ∙ length-serves (through c.args.width (get_or c.args.wires.now c.loop-w.w-index blank).to (next c.args.net.now (get_or c.args.wires.now c.loop-w.w-index blank).link (c.args.node / c.args.width))) c.loop-w.needs
                ∙ c.loop-w.invariant.size;
          }
      | else-w-node w ↦
          let s = ask_skips c.args.net.now c.args.width c.args.node c.args.needs.now c.args.wires.now c.loop-w.w-index blank c.loop-w-test.true w.if-w-node.false in
          record {
            needs = cc (s, c.loop-w.invariant.needs, w.needs-is);
            size = ap (λ (a : Asking). length a.needs) w.needs-is ∙ c.loop-w.invariant.size;
          }
    ]
