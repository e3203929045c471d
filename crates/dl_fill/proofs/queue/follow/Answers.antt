use Rattle.std.proofs.Common.{◌≡◌, ℕ, ◌+◌, ◌*◌, ◌<◌, List, length, take, arith, sym, subst, get_or}
use Rattle.std.specs.List.{fold}
use Rattle.dl_graph.specs.Counting.{times}
use Rattle.dl_graph.specs.Numbers.{next}
use Rattle.dl_fill.specs.Wires.{through}
use Rattle.dl_fill.specs.Counters.{hit}
use Rattle.dl_fill.proofs.Waiting.{length-made_more}
use Rattle.dl_fill.proofs.Hits.{made_inside, send_step}
use Rattle.dl_fill.proofs.queue.follow.Goals as goal

inside_at : (s to n : ℕ) (xs : List ℕ) (i x : ℕ) → i < length xs → x ≡ get_or xs i 0 → ((y : ℕ) → 0 < times y (through s to xs) → y < n) → x * s + to < n
inside_at s to n xs i x lt e h = subst (λ (v : ℕ). v * s + to < n) (sym e) (made_inside s to n xs h i lt)

pub overflow_mul-place : goal.overflow_mul-place
overflow_mul-place c =
    let lt : c.loop-at.at < length (next c.args.net.now c.args.link c.args.from) = omega arith in
    let inside = inside_at c.args.width c.args.to (length c.args.counters.now.need) (next c.args.net.now c.args.link c.args.from) c.loop-at.at c.next-place.result lt c.next-place.ensures c.requires.inside in
    omega (arith, inside, c.size-size.ensures, c.size-size.type_inv)

pub overflow_add-place : goal.overflow_add-place
overflow_add-place c =
    let lt : c.loop-at.at < length (next c.args.net.now c.args.link c.args.from) = omega arith in
    let inside = inside_at c.args.width c.args.to (length c.args.counters.now.need) (next c.args.net.now c.args.link c.args.from) c.loop-at.at c.next-place.result lt c.next-place.ensures c.requires.inside in
    omega (arith, inside, c.size-size.ensures, c.size-size.type_inv)

pub later-requires-clause-inside : goal.later-requires-clause-inside
later-requires-clause-inside c =
    let xs = next c.args.net.now c.args.link c.args.from in
    let lt : c.loop-at.at < length xs = omega arith in
    let inside = inside_at c.args.width c.args.to (length c.args.counters.now.need) xs c.loop-at.at c.next-place.result lt c.next-place.ensures c.requires.inside in
    omega (
      arith,
      inside,
      length-made_more c.args.counters.now c.loop-at.counters c.loop-at.hits.items c.args.hits.now.items (take c.loop-at.at (through c.args.width c.args.to xs)) c.loop-at.invariant.made,
    )

pub loop-at-preserved : goal.loop-at-preserved
loop-at-preserved c =
    let start = fold hit c.args.counters.now c.args.hits.now.items in
    let lt : c.loop-at.at < length (next c.args.net.now c.args.link c.args.from) = omega arith in
    let s = send_step c.args.width start c.args.to (next c.args.net.now c.args.link c.args.from) c.loop-at.at lt in
    record {
      made = cc (s, c.next-place.ensures, c.later.ensures.made, c.loop-at.invariant.made);
      waits = c.later.ensures.waits;
      «end» = c.loop-at.invariant.«end»;
    }
