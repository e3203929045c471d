use Rattle.std.proofs.Common.{arith}
use Rattle.dl_graph.specs.declared.link.Link.TheVariants.{Same}
use Rattle.dl_fill.specs.declared.wire.Wire.{Wire}
use Rattle.dl_fill.specs.Before.{is_inside}
use Rattle.dl_fill.proofs.Begun.{inputs_come, inputs_stay}
use Rattle.dl_fill.proofs.gate.inputs_len.Goals as goal
use Rattle.dl_fill.proofs.gate.inputs_len.Goals.{then-w-kind, else-w-kind}

abbrev blank : Wire
blank = record { from = 0; link = Same; to = 0 }

pub loop-w-preserved : goal.loop-w-preserved
loop-w-preserved c =
    elim c.if-w-kind.branch [
      | then-w-kind w ↦
          let s = inputs_come c.args.net.now (is_inside c.args.region.now.members) c.args.width c.args.wires.now c.loop-w.w-index blank c.args.kind c.args.place c.loop-w-test.true w.if-w-kind.true in
          record {
            len = omega (arith, s, w.len-is, w.inner_len-len.ensures.len, c.loop-w.invariant.len);
            few = omega (arith, w.len-is, w.inner_len-len.ensures.few, c.loop-w.invariant.few);
          }
      | else-w-kind w ↦
          let s = inputs_stay c.args.net.now (is_inside c.args.region.now.members) c.args.width c.args.wires.now c.loop-w.w-index blank c.args.kind c.args.place c.loop-w-test.true w.if-w-kind.false in
          record {
            len = omega (arith, s, w.len-is, c.loop-w.invariant.len);
            few = omega (arith, w.len-is, c.loop-w.invariant.few);
          }
    ]
