use Rattle.std.proofs.Common.{◌-◌, ◌<◌, ◌/◌, ◌%◌, ℕ, List, length, take, drop, get_or, reverse, sym, subst, ap, ◌∙◌, arith}
use Rattle.std.proofs.lemmas.List.{length-replicate}
use Rattle.dl_fill.specs.declared.needs.Need.TheVariants.{Nothing}
use Rattle.dl_fill.specs.Before.{before_of, is_inside}
use Rattle.dl_fill.specs.Wires.{inputs, edges}
use Rattle.dl_fill.specs.Pruned.{IsPruned}
use Rattle.dl_fill.proofs.Times.{times-get_or}
use Rattle.dl_fill.proofs.Network.{turned}
use Rattle.dl_fill.proofs.Inside.{edges_inside}
use Rattle.dl_fill.proofs.Pruning.{IsPruning, pruning_begins, pruning_goes, pruning_done}
use Rattle.dl_fill.proofs.backward.prune.Goals as goal

pub bounds-wanted-node : goal.bounds-wanted-node
bounds-wanted-node g c =
    let lt : length c.args.nodes.now - 1 - c.loop-i.i < length c.args.nodes.now = omega (arith, c.loop-i-test.true) in
    c.requires.inside (get_or c.args.nodes.now (length c.args.nodes.now - 1 - c.loop-i.i) 0) (times-get_or c.args.nodes.now (length c.args.nodes.now - 1 - c.loop-i.i) 0 lt)

pub visit-requires-clause-node : goal.visit-requires-clause-node
visit-requires-clause-node g c =
    let lt : length c.args.nodes.now - 1 - c.loop-i.i < length c.args.nodes.now = omega (arith, c.loop-i-test.true) in
    let inside = c.requires.inside (get_or c.args.nodes.now (length c.args.nodes.now - 1 - c.loop-i.i) 0) (times-get_or c.args.nodes.now (length c.args.nodes.now - 1 - c.loop-i.i) 0 lt) in
    omega (arith, inside, c.loop-i.invariant.pruning.len)

pub visit-requires-clause-inside : goal.visit-requires-clause-inside
visit-requires-clause-inside g c = λ y m.
    let lt : length c.args.nodes.now - 1 - c.loop-i.i < length c.args.nodes.now = omega (arith, c.loop-i-test.true) in
    let x : ℕ = get_or c.args.nodes.now (length c.args.nodes.now - 1 - c.loop-i.i) 0 in
    let inside : get_or c.args.nodes.now (length c.args.nodes.now - 1 - c.loop-i.i) 0 < length c.args.wanted.now =
    c.requires.inside (get_or c.args.nodes.now (length c.args.nodes.now - 1 - c.loop-i.i) 0) (times-get_or c.args.nodes.now (length c.args.nodes.now - 1 - c.loop-i.i) 0 lt) in
    let r = edges_inside c.args.net.now c.names-names.ensures.numbered c.args.width (length c.args.wanted.now / c.args.width) c.requires.names c.requires.rules
    c.args.wires.now c.requires.kinds (get_or c.args.nodes.now (length c.args.nodes.now - 1 - c.loop-i.i) 0) y
    (subst (λ (n : ℕ). get_or c.args.nodes.now (length c.args.nodes.now - 1 - c.loop-i.i) 0 < n) (sym c.requires.size) inside) m in
    omega (arith, r, c.requires.size, c.loop-i.invariant.pruning.len)

pub loop-i-init : goal.loop-i-init
loop-i-init g c = record {
  pruning =
      subst
      (λ (k : List ℕ). IsPruning (inputs c.args.net.now (is_inside c.args.region.now.members) c.args.width c.args.wires.now)
      (λ y. g.G.Gates.tells c.args.gates.now c.args.net.now (before_of c.args.marks.now c.args.region.now) (y % c.args.width) (y / c.args.width))
      c.args.wanted.now (length c.args.wanted.now) (take (length c.args.nodes.now - 0) c.args.nodes.now) (drop (length c.args.nodes.now - 0) c.args.nodes.now) (reverse k) c.in_ok-needs.needs.needs)
      (sym c.new-kept.ensures.items)
      (pruning_begins (inputs c.args.net.now (is_inside c.args.region.now.members) c.args.width c.args.wires.now)
      (λ y. g.G.Gates.tells c.args.gates.now c.args.net.now (before_of c.args.marks.now c.args.region.now) (y % c.args.width) (y / c.args.width))
      c.args.wanted.now (length c.args.wanted.now) c.args.nodes.now (length c.args.nodes.now - 0) c.in_ok-needs.needs.needs (omega arith)
      (ap length c.in_ok-needs.ensures.needs ∙ length-replicate (length c.args.wanted.now) Nothing));
}

pub loop-i-preserved : goal.loop-i-preserved
loop-i-preserved g c = record {
  pruning =
      pruning_goes (inputs c.args.net.now (is_inside c.args.region.now.members) c.args.width c.args.wires.now)
      (λ y. g.G.Gates.tells c.args.gates.now c.args.net.now (before_of c.args.marks.now c.args.region.now) (y % c.args.width) (y / c.args.width))
      c.args.wanted.now (length c.args.wanted.now) (edges c.args.net.now c.args.width c.args.wires.now) c.args.nodes.now
      (λ x y m. turned c.args.net.now (is_inside c.args.region.now.members) c.args.width c.args.wires.now c.requires.kinds x y (c.requires.live x m)) c.loop-i.i c.loop-i.kept.items c.visit.new.kept.items c.loop-i.needs.needs c.visit.new.needs.needs
      c.requires.order c.loop-i-test.true c.requires.inside
      (λ y m.
      let lt : length c.args.nodes.now - 1 - c.loop-i.i < length c.args.nodes.now = omega (arith, c.loop-i-test.true) in
      let inside : get_or c.args.nodes.now (length c.args.nodes.now - 1 - c.loop-i.i) 0 < length c.args.wanted.now =
      c.requires.inside (get_or c.args.nodes.now (length c.args.nodes.now - 1 - c.loop-i.i) 0) (times-get_or c.args.nodes.now (length c.args.nodes.now - 1 - c.loop-i.i) 0 lt) in
      let r = edges_inside c.args.net.now c.names-names.ensures.numbered c.args.width (length c.args.wanted.now / c.args.width) c.requires.names c.requires.rules
      c.args.wires.now c.requires.kinds (get_or c.args.nodes.now (length c.args.nodes.now - 1 - c.loop-i.i) 0) y
      (subst (λ (n : ℕ). get_or c.args.nodes.now (length c.args.nodes.now - 1 - c.loop-i.i) 0 < n) (sym c.requires.size) inside) m in
      subst (λ (n : ℕ). y < n) c.requires.size r)
      c.loop-i.invariant.pruning c.in_ok-visit.ensures;
}

pub returns : goal.returns
returns g c =
    subst
    (IsPruned (inputs c.args.net.now (is_inside c.args.region.now.members) c.args.width c.args.wires.now)
    (λ y. g.G.Gates.tells c.args.gates.now c.args.net.now (before_of c.args.marks.now c.args.region.now) (y % c.args.width) (y / c.args.width))
    c.args.nodes.now c.args.wanted.now)
    (sym c.reversed.ensures)
    (pruning_done (inputs c.args.net.now (is_inside c.args.region.now.members) c.args.width c.args.wires.now)
    (λ y. g.G.Gates.tells c.args.gates.now c.args.net.now (before_of c.args.marks.now c.args.region.now) (y % c.args.width) (y / c.args.width))
    c.args.wanted.now (length c.args.wanted.now) c.args.nodes.now (length c.args.nodes.now - c.loop-i.i) (reverse c.loop-i.kept.items) c.loop-i.needs.needs
    (omega (arith, c.loop-i-test.false)) c.loop-i.invariant.pruning)
