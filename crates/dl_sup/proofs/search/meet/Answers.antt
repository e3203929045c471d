use Rattle.std.proofs.Common.{ℕ, List, inl, inr, sym, subst, ◌∙◌}
use Rattle.std.specs.Prelude.{Contains}
use Rattle.dl_sup.specs.declared.slot.Way.TheVariants.{Down, Up}
use Rattle.dl_sup.specs.Slots.{live}
use Rattle.dl_sup.specs.Searching.{items_of, item_at, IsWalk}
use Rattle.dl_sup.specs.Turning.{IsTurn}
use Rattle.dl_sup.proofs.Walks.{met_walk, closed_below, closed_above, has_first}
use Rattle.dl_sup.proofs.search.meet.Goals as goal

pub returns-in-Ended : goal.returns-in-Ended
returns-in-Ended c =
    let inv = c.loop-here.invariant in
    let low = c.advance.new.front in
    let t = subst (IsTurn Down c.args.slots.now c.loop-here.low low c.loop-here.high.visits) c.in-Ended.is c.in_ok-advance.ensures in
    inl (closed_below c.args.slots.now low (item_at c.args.low.now.visits 0) (item_at c.args.high.now.visits 0) t.0.front t.2 (t.0.first ∙ inv.from)
    (subst (λ (vs : List (ℕ × ℕ)). ¬ Contains (items_of vs) (item_at c.args.high.now.visits 0)) (sym t.1) inv.low_lacks))

pub returns-in-Met : goal.returns-in-Met
returns-in-Met c =
    let inv = c.loop-here.invariant in
    let low = c.advance.new.front in
    let t = subst (IsTurn Down c.args.slots.now c.loop-here.low low c.loop-here.high.visits) c.in-Met.is c.in_ok-advance.ensures in
    subst (IsWalk (live c.args.slots.now) (item_at c.args.low.now.visits 0) (item_at c.args.high.now.visits 0)) (sym c.in_ok-join-in-Met.ensures)
    (met_walk c.args.slots.now low c.loop-here.high c.in-Met.here c.in-Met.there (item_at c.args.low.now.visits 0) (item_at c.args.high.now.visits 0) t.0.front inv.high t.1 t.2 t.3 (t.0.first ∙ inv.from) inv.to)

pub returns-in-Ended-2 : goal.returns-in-Ended-2
returns-in-Ended-2 c =
    let inv = c.loop-here.invariant in
    let high = c.advance-in-loop-here.new.front in
    let t = subst (IsTurn Up c.args.slots.now c.loop-here.high high c.advance.new.front.visits) c.in-Ended-2.is c.in_ok-advance-2.ensures in
    inr (closed_above c.args.slots.now high (item_at c.args.low.now.visits 0) (item_at c.args.high.now.visits 0) t.0.front t.2 (t.0.first ∙ inv.to)
    (subst (λ (vs : List (ℕ × ℕ)). ¬ Contains (items_of vs) (item_at c.args.low.now.visits 0)) (sym t.1) inv.high_lacks))

pub returns-in-Met-2 : goal.returns-in-Met-2
returns-in-Met-2 c =
    let inv = c.loop-here.invariant in
    let low = c.advance.new.front in
    let high = c.advance-in-loop-here.new.front in
    let s = subst (IsTurn Down c.args.slots.now c.loop-here.low low c.loop-here.high.visits) c.in-Open.is c.in_ok-advance.ensures in
    let t = subst (IsTurn Up c.args.slots.now c.loop-here.high high low.visits) c.in-Met-2.is c.in_ok-advance-2.ensures in
    subst (IsWalk (live c.args.slots.now) (item_at c.args.low.now.visits 0) (item_at c.args.high.now.visits 0)) (sym c.in_ok-join-in-Met-2.ensures)
    (met_walk c.args.slots.now low high c.in-Met-2.there c.in-Met-2.here (item_at c.args.low.now.visits 0) (item_at c.args.high.now.visits 0) s.0.front t.0.front t.2 t.1 (sym t.3) (s.0.first ∙ inv.from)
    (t.0.first ∙ inv.to))

pub loop-here-preserved : goal.loop-here-preserved
loop-here-preserved c =
    let inv = c.loop-here.invariant in
    let low = c.advance.new.front in
    let high = c.advance-in-loop-here.new.front in
    let s = subst (IsTurn Down c.args.slots.now c.loop-here.low low c.loop-here.high.visits) c.in-Open.is c.in_ok-advance.ensures in
    let t = subst (IsTurn Up c.args.slots.now c.loop-here.high high low.visits) c.in-Open-2.is c.in_ok-advance-2.ensures in
    record {
      low = s.0.front;
      high = t.0.front;
      from = s.0.first ∙ inv.from;
      to = t.0.first ∙ inv.to;
      low_lacks = λ m.
          elim (s.2 (item_at c.args.high.now.visits 0) m) [ inl old ↦ inv.low_lacks old | inr new ↦ new (has_first Up c.args.slots.now c.loop-here.high inv.high (item_at c.args.high.now.visits 0) inv.to) ];
      high_lacks = λ m.
          elim (t.2 (item_at c.args.low.now.visits 0) m) [
            | inl old ↦ inv.high_lacks old
            | inr new ↦ new (has_first Down c.args.slots.now low s.0.front (item_at c.args.low.now.visits 0) (s.0.first ∙ inv.from))
          ];
    }
