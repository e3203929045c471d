use Rattle.std.proofs.Common.{◌≡◌, ℕ, suc, ◌<◌, ◌≤◌, length}
use Rattle.std.specs.Prelude.{filter, not}
use Rattle.dl_sup.specs.Links.{names_item}
use Rattle.dl_sup.specs.Slots.{near, live, slot_at, IsAlive, KeepsSlots}
use Rattle.dl_sup.proofs.table.drop_chain.Given as goal

abbrev pub invariant-loop-cursor : goal.invariant-loop-cursor
invariant-loop-cursor l = record {
  keeps : KeepsSlots l.initial.slots.items l.slots.items;
  rest : filter (λ p. not (names_item l.item p)) (live l.slots.items) ≡ filter (λ p. not (names_item l.item p)) (live l.initial.slots.items);
  left : (t : ℕ) → IsAlive l.slots.items t → near l.way (slot_at l.slots.items t) ≡ l.item → t < l.cursor;
  short : l.cursor ≤ length l.slots.items;
  chain : (t : ℕ) → l.cursor ≡ suc t → near l.way (slot_at l.slots.items t) ≡ l.item;
}

abbrev pub decreases-loop-cursor : goal.decreases-loop-cursor
decreases-loop-cursor l = l.cursor
