use Rattle.std.proofs.Common.{◌≡◌, ◌<◌, ◌++◌, ◌∙◌, ℕ, Bool, List, length, get_or, take, sym, ap, subst, arith, length-append}
use Rattle.std.specs.List.{fold}
use Rattle.dl_graph.specs.Counting.{times}
use Rattle.dl_fill.specs.Cells.{CellLists, counted_down, come_down}
use Rattle.dl_fill.specs.Counters.{CounterLists, IsKept, hit, chosen}
use Rattle.dl_fill.proofs.Times.{times-get_or}
use Rattle.dl_fill.proofs.Engine.{length-hits}
use Rattle.dl_fill.proofs.Blocks.{AreHit, all_hit, chosen-take}
use Rattle.dl_fill.proofs.counters.Counters.hit_block.Goals as goal

-- the nodes that the cells tell of are those that come down
chosen_here : (fires : List Bool) (v : CellLists) (ys : List ℕ) → take (length ys) fires ≡ come_down v ys → chosen fires ys ≡ chosen (come_down v ys) ys
chosen_here fires v ys told = sym (chosen-take fires ys) ∙ ap (λ (fs : List Bool). chosen fs ys) told

within : (v : CellLists) (queue ys : List ℕ) (w : CounterLists) → record { need = v.numbers; queue = queue } ≡ w → ((y : ℕ) → 0 < times y ys → y < length w.need)
    → (y : ℕ) → 0 < times y ys → y < length v.numbers
within v queue ys w view inside = subst (λ (u : CounterLists). (y : ℕ) → 0 < times y ys → y < length u.need) (sym view) inside

room_for : (capacity : ℕ) (v after : CellLists) (queue ys longer : List ℕ) → IsKept v.flags v.numbers queue capacity → AreHit capacity v queue ys after longer
    → ((y : ℕ) → 0 < times y ys → y < length v.numbers) → 0 < length ys → length longer < capacity
room_for capacity v after queue ys longer h all inside some =
    let here = inside (get_or ys 0 0) (times-get_or ys 0 0 some) in
    let size = length-hits ys (record { need = v.numbers; queue = queue }) in
    omega (arith, h.room (omega (arith, here)), all.kept.few, ap (λ (w : CounterLists). length w.need) all.same, size)

pub push_chosen-requires-clause-room : goal.push_chosen-requires-clause-room
push_chosen-requires-clause-room c = λ some.
    let v = c.self.inside.cells in
    let ys = c.args.nodes.now in
    let queue = c.self.inside.queue.items in
    let inside = within v queue ys c.args.self.now c.self.view_is c.requires.inside in
    let all = all_hit c.self.inside.queue.cap ys v queue c.self.invariant inside in
    omega (
      arith,
      room_for c.self.inside.queue.cap v (fold counted_down v ys) queue ys (queue ++ chosen (come_down v ys) ys) c.self.invariant all inside some,
      ap (λ (xs : List ℕ). length xs) (chosen_here c.count_down.new.fires v ys c.count_down.ensures.told),
      length-append queue (chosen (come_down v ys) ys),
    )

pub invariant_of-self : goal.invariant_of-self
invariant_of-self c =
    let v = c.self.inside.cells in
    let ys = c.args.nodes.now in
    let queue = c.self.inside.queue.items in
    let capacity = c.self.inside.queue.cap in
    let inside = within v queue ys c.args.self.now c.self.view_is c.requires.inside in
    let all = all_hit capacity ys v queue c.self.invariant inside in
    let longer = c.push_chosen.ensures.items ∙ ap (λ (xs : List ℕ). queue ++ xs) (chosen_here c.count_down.new.fires v ys c.count_down.ensures.told) in
    subst (λ (u : CellLists). IsKept u.flags u.numbers c.push_chosen.new.queue.items c.push_chosen.new.queue.cap) (sym c.count_down.ensures.lower)
    (subst (λ (xs : List ℕ). IsKept (fold counted_down v ys).flags (fold counted_down v ys).numbers xs c.push_chosen.new.queue.cap) (sym longer)
    (subst (λ (n : ℕ). IsKept (fold counted_down v ys).flags (fold counted_down v ys).numbers (queue ++ chosen (come_down v ys) ys) n) (sym c.push_chosen.ensures.capacity)
    all.kept))

pub returns : goal.returns
returns c =
    let v = c.self.inside.cells in
    let ys = c.args.nodes.now in
    let queue = c.self.inside.queue.items in
    let inside = within v queue ys c.args.self.now c.self.view_is c.requires.inside in
    let all = all_hit c.self.inside.queue.cap ys v queue c.self.invariant inside in
    let longer = c.push_chosen.ensures.items ∙ ap (λ (xs : List ℕ). queue ++ xs) (chosen_here c.count_down.new.fires v ys c.count_down.ensures.told) in
    ap (λ (u : CellLists). record { need = u.numbers; queue = c.push_chosen.new.queue.items }) c.count_down.ensures.lower
    ∙ ap (λ (xs : List ℕ). record { need = (fold counted_down v ys).numbers; queue = xs }) longer
    ∙ sym all.same
    ∙ ap (λ (w : CounterLists). fold hit w ys) c.self.view_is
