use Rattle.std.proofs.Common.{◌≡◌, ◌+◌, ◌++◌, ◌∷◌, ◌∙◌, ◌<◌, ℕ, Bool, List, [], true, false, length, get_or, take, sym, ap, arith, append_assoc, length-append}
use Rattle.std.proofs.lemmas.List.{take_at, append-nil}
use Rattle.std.specs.Vec.{vec_capacity}
use Rattle.std.specs.Global.{Vec}
use Rattle.dl_fill.specs.Counters.{chosen}
use Rattle.dl_fill.proofs.Kept.{one_where}
use Rattle.dl_fill.proofs.Blocks.{chosen_more, length-chosen_front}
use Rattle.dl_fill.proofs.counters.push_chosen.Goals as goal
use Rattle.dl_fill.proofs.counters.push_chosen.Goals.{then-not-fires-at, else-not-fires-at}

pub push_reserved-requires : goal.push_reserved-requires
push_reserved-requires c =
    let more = c.requires.room (omega arith) in
    omega (
      arith,
      more,
      c.loop-at.invariant.capacity,
      ap (λ (xs : List ℕ). length xs) c.loop-at.invariant.items,
      length-append c.args.queue.now.items (chosen c.args.fires.now (take c.loop-at.at c.args.nodes.now)),
      length-chosen_front c.args.fires.now c.args.nodes.now c.loop-at.at,
      c.loop-at.queue.ok.0,
    )

-- the queue before, and the nodes chosen so far, with one more where it fires
one_more : (queue now : List ℕ) (fs : List Bool) (ys : List ℕ) (i : ℕ) (on : Bool) → i < length ys → i < length fs → get_or fs i false ≡ on
    → now ≡ queue ++ chosen fs (take i ys) → now ++ one_where on (get_or ys i 0) ≡ queue ++ chosen fs (take (i + 1) ys)
one_more queue now fs ys i on lt le is items =
    ap (λ (b : Bool). now ++ one_where b (get_or ys i 0)) (sym is) ∙ ap (λ (xs : List ℕ). xs ++ one_where (get_or fs i false) (get_or ys i 0)) items
    ∙ append_assoc queue (chosen fs (take i ys)) (one_where (get_or fs i false) (get_or ys i 0))
    ∙ ap (λ (xs : List ℕ). queue ++ xs) (sym (chosen_more fs ys i lt le))

pub loop-at-preserved : goal.loop-at-preserved
loop-at-preserved c =
    let fs = c.args.fires.now in
    let ys = c.args.nodes.now in
    let at = c.loop-at.at in
    let old = c.loop-at.queue.items in
    let more = one_more c.args.queue.now.items old fs ys at in
    let le : at < length fs = omega (arith, c.requires.few, c.told-fires) in
    elim c.if-not-fires-at.branch [
      | then-not-fires-at w ↦ record {
        items =
            ap (λ (q : Vec ℕ). q.items) w.queue-is ∙ w.truncate.ensures.items ∙ ap (take c.len-len.result) c.push_reserved.ensures.items
            ∙ take_at old (get_or ys at 0 ∷ []) c.len-len.result (omega (arith, c.len-len.ensures, c.loop-at.queue.ok.0)) ∙ sym (append-nil old)
            ∙ more false (omega arith) le w.if-not-fires-at.true c.loop-at.invariant.items;
        capacity = ap (λ (q : Vec ℕ). vec_capacity q) w.queue-is ∙ w.truncate.ensures.capacity ∙ c.push_reserved.ensures.capacity ∙ c.loop-at.invariant.capacity;
      }
      | else-not-fires-at w ↦ record {
        items =
            ap (λ (q : Vec ℕ). q.items) w.queue-is ∙ c.push_reserved.ensures.items ∙ more true (omega arith) le w.if-not-fires-at.false c.loop-at.invariant.items;
        capacity = ap (λ (q : Vec ℕ). vec_capacity q) w.queue-is ∙ c.push_reserved.ensures.capacity ∙ c.loop-at.invariant.capacity;
      }
    ]
