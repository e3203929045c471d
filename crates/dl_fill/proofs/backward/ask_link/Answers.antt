use Rattle.std.proofs.Common.{◌≡◌, ℕ, ◌+◌, ◌*◌, ◌<◌, List, length, arith, ap, ◌∙◌, sym, subst, get_or}
use Rattle.dl_graph.specs.Counting.{times}
use Rattle.dl_graph.specs.Numbers.{next}
use Rattle.dl_fill.specs.Wires.{through}
use Rattle.dl_fill.specs.Pruned.{Asking}
use Rattle.dl_fill.proofs.Hits.{made_inside}
use Rattle.dl_fill.proofs.Serving.{length-serve, serve_step}
use Rattle.dl_fill.proofs.backward.ask_link.Goals as goal

inside_at : (s to n : ℕ) (xs : List ℕ) (i x : ℕ) → i < length xs → x ≡ get_or xs i 0 → ((y : ℕ) → 0 < times y (through s to xs) → y < n) → x * s + to < n
inside_at s to n xs i x lt e h = subst (λ (v : ℕ). v * s + to < n) (sym e) (made_inside s to n xs h i lt)

pub overflow_mul-place : goal.overflow_mul-place
overflow_mul-place c =
    let lt : c.loop-at.at < length (next c.args.net.now c.args.link c.args.from) = omega arith in
    let inside = inside_at c.args.width c.args.to (length c.args.needs.now.needs) (next c.args.net.now c.args.link c.args.from) c.loop-at.at c.next-place.result lt c.next-place.ensures c.requires in
    omega (arith, inside, c.size-size.ensures, c.size-size.type_inv)

pub overflow_add-place : goal.overflow_add-place
overflow_add-place c =
    let lt : c.loop-at.at < length (next c.args.net.now c.args.link c.args.from) = omega arith in
    let inside = inside_at c.args.width c.args.to (length c.args.needs.now.needs) (next c.args.net.now c.args.link c.args.from) c.loop-at.at c.next-place.result lt c.next-place.ensures c.requires in
    omega (arith, inside, c.size-size.ensures, c.size-size.type_inv)

pub serve-requires : goal.serve-requires
serve-requires c =
    let lt : c.loop-at.at < length (next c.args.net.now c.args.link c.args.from) = omega arith in
    let inside = inside_at c.args.width c.args.to (length c.args.needs.now.needs) (next c.args.net.now c.args.link c.args.from) c.loop-at.at c.next-place.result lt c.next-place.ensures c.requires in
    omega (arith, inside, c.loop-at.invariant.size)

pub loop-at-preserved : goal.loop-at-preserved
loop-at-preserved c =
    let lt : c.loop-at.at < length (next c.args.net.now c.args.link c.args.from) = omega arith in
    let s = serve_step c.args.width c.args.needs.now c.args.to (next c.args.net.now c.args.link c.args.from) c.loop-at.at lt in
    record {
      needs = cc (s, c.next-place.ensures, c.serve.ensures, c.loop-at.invariant.needs);
      size = ap (λ (a : Asking). length a.needs) c.serve.ensures ∙ length-serve c.loop-at.needs (c.next-place.result * c.args.width + c.args.to) ∙ c.loop-at.invariant.size;
      «end» = c.loop-at.invariant.«end»;
    }
