use Rattle.std.proofs.Common.{ℕ, ◌+◌, List, arith, ap, sym, ◌∙◌, refl, subst}
use Rattle.std.specs.List.{fold}
use Rattle.dl_fill.specs.Counters.{CounterLists, AreNodes, hit}
use Rattle.dl_fill.specs.Wires.{edges}
use Rattle.dl_fill.specs.Runs.{Fires}
use Rattle.dl_fill.proofs.Waiting.{length-made_same, length-made_more, none_waits}
use Rattle.dl_fill.proofs.queue.run.Goals as goal

pub loop-node-init : goal.loop-node-init
loop-node-init c =
    let leads = edges c.args.net.now c.args.width c.args.wires.now in
    let w = c.args.counters.now in
    record {
      fires = subst (λ (hits : List ℕ). Fires leads w 0 (fold hit w hits)) (sym c.new-hits.ensures) Fires.begins;
      waits = subst (λ (hits : List ℕ). AreNodes w hits) (sym c.new-hits.ensures) (none_waits w);
      size = refl;
    }

pub fire_kind-requires-clause-inside : goal.fire_kind-requires-clause-inside
fire_kind-requires-clause-inside c = λ y m.
    let v = c.loop-node.counters in
    let size = length-made_same v c.next_node.new.counters c.next_node.new.hits.items c.loop-node.hits.items c.next_node.ensures.same in
    let before = c.loop-node.invariant.size in
    omega (arith, size, before, c.requires.inside c.in-Some.node y (omega (arith, c.in-Some.ensures.within, before)) m)

pub overflow_add-head : goal.overflow_add-head
overflow_add-head c = omega (arith, c.in-Some.ensures.few, c.loop-node.invariant.size, c.size-size.ensures.size, c.size-size.type_inv)

pub loop-node-smaller : goal.loop-node-smaller
loop-node-smaller c =
    let v = c.loop-node.counters in
    let u = c.next_node.new.counters in
    let left = c.next_node.new.hits.items in
    let leads = edges c.args.net.now c.args.width c.args.wires.now c.in-Some.node in
    omega (
      arith,
      c.in-Some.ensures.few,
      length-made_same v u left c.loop-node.hits.items c.next_node.ensures.same,
      length-made_more u c.fire_kind.new.counters c.fire_kind.new.hits.items left leads c.fire_kind.ensures.made,
    )

pub loop-node-preserved : goal.loop-node-preserved
loop-node-preserved c =
    let leads = edges c.args.net.now c.args.width c.args.wires.now in
    let v = c.loop-node.counters in
    let u = c.next_node.new.counters in
    let left = c.next_node.new.hits.items in
    let made = fold hit v c.loop-node.hits.items in
    record {
      fires =
          subst (λ (w : CounterLists). Fires leads c.args.counters.now (c.loop-node.head + 1) w)
          (sym (c.fire_kind.ensures.made
          ∙ ap (λ (w : CounterLists). fold hit w (leads c.in-Some.node)) c.next_node.ensures.same
          ∙ ap (λ (x : ℕ). fold hit made (leads x)) c.in-Some.ensures.node))
          (Fires.goes c.loop-node.head made c.loop-node.invariant.fires c.in-Some.ensures.reached);
      waits = c.fire_kind.ensures.waits;
      size =
          length-made_more u c.fire_kind.new.counters c.fire_kind.new.hits.items left (leads c.in-Some.node) c.fire_kind.ensures.made
          ∙ length-made_same v u left c.loop-node.hits.items c.next_node.ensures.same
          ∙ c.loop-node.invariant.size;
    }

pub returns : goal.returns
returns c =
    let leads = edges c.args.net.now c.args.width c.args.wires.now in
    record {
      head = c.loop-node.head;
      fires = subst (λ (w : CounterLists). Fires leads c.args.counters.now c.loop-node.head w) (sym c.in_default.ensures.made) c.loop-node.invariant.fires;
      ends = c.in_default.ensures.ends;
    }
