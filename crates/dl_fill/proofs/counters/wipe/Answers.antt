use Rattle.std.proofs.Common.{◌≡◌, ℕ, suc, ◌+◌, ◌<◌, Bool, List, ◌∷◌, length, get_or, drop, sym, subst, ap, refl, ◌∙◌, arith}
use Rattle.std.proofs.Math.Seq.{drop-cons}
use Rattle.dl_fill.specs.Cells.{CellLists}
use Rattle.dl_fill.specs.Counters.{IsQueue}
use Rattle.dl_fill.proofs.Times.{times_cons_same}
use Rattle.dl_fill.proofs.Kept.{set_kept, queue_wiped}
use Rattle.dl_fill.proofs.counters.wipe.Goals as goal

first_within : (fired : List Bool) (need : List ℕ) (x : ℕ) (queue : List ℕ) → IsQueue fired need (x ∷ queue) → x < length fired
first_within fired need x queue h = h.within x (omega (arith, times_cons_same x x queue refl))

-- the queue from a place on is the node there, and the queue behind it
from_here : (fired : List Bool) (need queue : List ℕ) (at : ℕ) → at < length queue → IsQueue fired need (drop at queue)
    → IsQueue fired need (get_or queue at 0 ∷ drop (at + 1) queue)
from_here fired need queue at lt h =
    let next : suc at ≡ at + 1 = omega arith in
    subst (λ (xs : List ℕ). IsQueue fired need xs) (drop-cons queue at 0 lt ∙ ap (λ (n : ℕ). get_or queue at 0 ∷ drop n queue) next) h

pub wipe-requires : goal.wipe-requires
wipe-requires c =
    let i = c.loop-node.node-index in
    first_within c.loop-node.cells.flags c.args.cells.now.numbers (get_or c.args.queue.now i 0) (drop (i + 1) c.args.queue.now)
    (from_here c.loop-node.cells.flags c.args.cells.now.numbers c.args.queue.now i c.loop-node-test.true c.loop-node.invariant.queued)

pub loop-node-preserved : goal.loop-node-preserved
loop-node-preserved c =
    let i = c.loop-node.node-index in
    let x = get_or c.args.queue.now i 0 in
    let here = from_here c.loop-node.cells.flags c.args.cells.now.numbers c.args.queue.now i c.loop-node-test.true c.loop-node.invariant.queued in
    let idle : get_or c.loop-node.cells.numbers x 0 ≡ 0 =
    ap (λ (ns : List ℕ). get_or ns x 0) c.loop-node.invariant.need ∙ here.idle x (omega (arith, times_cons_same x x (drop (i + 1) c.args.queue.now) refl)) in
    record {
      need = ap (λ (v : CellLists). v.numbers) c.wipe.ensures ∙ set_kept c.loop-node.cells.numbers x 0 idle ∙ c.loop-node.invariant.need;
      queued =
          subst (λ (v : CellLists). IsQueue v.flags c.args.cells.now.numbers (drop (i + 1) c.args.queue.now)) (sym c.wipe.ensures)
          (queue_wiped c.loop-node.cells.flags c.args.cells.now.numbers x (drop (i + 1) c.args.queue.now) here);
    }
