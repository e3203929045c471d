use Rattle.std.proofs.Common.{ℕ, length, ◌+◌, ◌*◌, ◌/◌, ◌%◌, ◌<◌, List, ◌∷◌, [], inl, inr, arith, subst, sym, refl, ◌∙◌}
use Rattle.dl_fill.specs.Before.{before_of, is_inside}
use Rattle.dl_fill.specs.Wires.{inputs, inputs_at}
use Rattle.dl_fill.specs.declared.wire.Gate.{Gate}
use Rattle.dl_fill.specs.Prepared.{Begins, nodes_at}
use Rattle.dl_fill.proofs.Starting.{begins_one, begins_join, length-nodes, nodes_more, node_fresh, nodes_has, gate_at, inputs_of}
use Rattle.dl_fill.proofs.Times.{times_cons_same}
use Rattle.dl_fill.proofs.whole_run.begin_place.Goals as goal

pub begin_kind-requires-clause-free : goal.begin_kind-requires-clause-free
begin_kind-requires-clause-free g c =
    elim c.requires.free [
      | inl never ↦ inl (never (c.args.from + c.loop-k.k) c.args.place)
      | inr room ↦ inr (omega (
        arith,
        room,
        c.loop-k-test.true,
        c.loop-k.invariant.begins.few,
        c.loop-k.invariant.begins.size,
        length-nodes c.args.width c.args.from c.loop-k.k c.args.place,
      ))
    ]

pub begin_kind-requires-clause-fresh : goal.begin_kind-requires-clause-fresh
begin_kind-requires-clause-fresh g c =
    let node : ℕ = c.args.place * c.args.width + (c.args.from + c.loop-k.k) in
    elim c.requires.fresh [
      | inl never ↦ inl (never (c.args.from + c.loop-k.k) c.args.place)
      | inr fresh ↦ inr (
          c.loop-k.invariant.begins.queue_out node
          (node_fresh c.args.width c.args.from c.loop-k.k c.args.place node (omega (arith, c.requires.kinds, c.loop-k-test.true))
          (omega (arith, times_cons_same node node [] refl)))
          ∙ fresh node (nodes_has c.args.width c.args.from c.args.count c.args.place c.loop-k.k c.loop-k-test.true))
    ]

pub loop-k-preserved : goal.loop-k-preserved
loop-k-preserved g c =
    let small : c.args.from + c.loop-k.k < c.args.width = omega (arith, c.requires.kinds, c.loop-k-test.true) in
    let node : ℕ = c.args.place * c.args.width + (c.args.from + c.loop-k.k) in
    let asked : ℕ = length (inputs_at c.args.net.now (is_inside c.args.region.now.members) c.args.width c.args.wires.now (c.args.from + c.loop-k.k) c.args.place) in
    let gate : Gate = g.G.Gates.tells c.args.gates.now c.args.net.now (before_of c.args.marks.now c.args.region.now) (c.args.from + c.loop-k.k) c.args.place in
    record {
      begins =
          subst (λ (xs : List ℕ). Begins (inputs c.args.net.now (is_inside c.args.region.now.members) c.args.width c.args.wires.now)
          (λ y. g.G.Gates.tells c.args.gates.now c.args.net.now (before_of c.args.marks.now c.args.region.now) (y % c.args.width) (y / c.args.width)) xs c.args.counters.now c.begin_kind.new.counters)
          (sym (nodes_more c.args.width c.args.from c.loop-k.k c.args.place))
          (begins_join (inputs c.args.net.now (is_inside c.args.region.now.members) c.args.width c.args.wires.now)
          (λ y. g.G.Gates.tells c.args.gates.now c.args.net.now (before_of c.args.marks.now c.args.region.now) (y % c.args.width) (y / c.args.width))
          (nodes_at c.args.width c.args.from c.loop-k.k c.args.place) ((c.args.place * c.args.width + (c.args.from + c.loop-k.k)) ∷ []) c.args.counters.now c.loop-k.counters c.begin_kind.new.counters
          c.loop-k.invariant.begins
          (begins_one (inputs c.args.net.now (is_inside c.args.region.now.members) c.args.width c.args.wires.now)
          (λ y. g.G.Gates.tells c.args.gates.now c.args.net.now (before_of c.args.marks.now c.args.region.now) (y % c.args.width) (y / c.args.width))
          c.loop-k.counters c.begin_kind.new.counters (c.args.place * c.args.width + (c.args.from + c.loop-k.k)) gate asked
          (omega (arith, small, c.requires.nodes, c.loop-k.invariant.begins.size)) c.begin_kind.ensures
          (gate_at (g.G.Gates.tells c.args.gates.now c.args.net.now (before_of c.args.marks.now c.args.region.now)) c.args.width c.args.place (c.args.from + c.loop-k.k) small)
          (inputs_of c.args.net.now (is_inside c.args.region.now.members) c.args.width c.args.wires.now c.args.place (c.args.from + c.loop-k.k) small))
          (λ y h. node_fresh c.args.width c.args.from c.loop-k.k c.args.place y small h));
    }
