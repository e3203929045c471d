use Rattle.std.proofs.Common.{arith, take}
use Rattle.std.specs.List.{fold, flat_map}
use Rattle.dl_graph.specs.declared.link.Link.TheVariants.{Same}
use Rattle.dl_fill.specs.Counters.{hit}
use Rattle.dl_fill.specs.Wires.{edges_by}
use Rattle.dl_fill.proofs.Waiting.{made_is, waits_is, length-made_more}
use Rattle.dl_fill.specs.declared.wire.Wire.{Wire}
use Rattle.dl_fill.proofs.Hits.{edge_in, fire_sends, fire_skips}
use Rattle.dl_fill.proofs.queue.fire.Goals as goal
use Rattle.dl_fill.proofs.queue.fire.Goals.{then-w-node, else-w-node}

abbrev blank : Wire
blank = record { from = 0; link = Same; to = 0 }

pub send-requires-clause-inside : goal.send-requires-clause-inside
send-requires-clause-inside c = λ y h.
    let i = c.loop-w.w-index in
    let inside = c.requires.inside y (edge_in c.args.net.now c.args.width c.args.node c.args.wires.now i blank y c.loop-w-test.true c.if-w-node.true h) in
    let before = flat_map (edges_by c.args.net.now c.args.width c.args.node) (take i c.args.wires.now) in
    omega (
      arith,
      inside,
      length-made_more c.args.counters.now c.loop-w.counters c.loop-w.hits.items c.args.hits.now.items before c.loop-w.invariant.made,
    )

pub loop-w-preserved : goal.loop-w-preserved
loop-w-preserved c =
    let start = fold hit c.args.counters.now c.args.hits.now.items in
    let v = c.if-w-node.counters in
    let left = c.if-w-node.hits in
    elim c.if-w-node.branch [
      | then-w-node w ↦
          let s = fire_sends c.args.net.now c.args.width c.args.node start c.args.wires.now c.loop-w.w-index blank c.loop-w-test.true w.if-w-node.true in
          let same = made_is v w.send.new.counters left w.send.new.hits w.counters-is w.hits-is in
          record {
            made = cc (s, same, w.send.ensures.made, c.loop-w.invariant.made);
            waits = waits_is v w.send.new.counters left w.send.new.hits w.counters-is w.hits-is w.send.ensures.waits;
          }
      | else-w-node w ↦
          let s = fire_skips c.args.net.now c.args.width c.args.node start c.args.wires.now c.loop-w.w-index blank c.loop-w-test.true w.if-w-node.false in
          let same = made_is v c.loop-w.counters left c.loop-w.hits w.counters-is w.hits-is in
          record {
            made = cc (s, same, c.loop-w.invariant.made);
            waits = waits_is v c.loop-w.counters left c.loop-w.hits w.counters-is w.hits-is c.loop-w.invariant.waits;
          }
    ]
