use Rattle.std.proofs.Common.{◌≡◌, ◌<◌, ◌++◌, ◌∙◌, ℕ, Bool, true, false, List, length, sym, ap, subst, refl}
use Rattle.std.proofs.lemmas.List.{append-nil}
use Rattle.dl_fill.specs.Cells.{CellLists, comes_down, counted_down}
use Rattle.dl_fill.specs.Counters.{CounterLists, IsKept}
use Rattle.dl_fill.proofs.Kept.{one_where, one_hit}
use Rattle.dl_fill.proofs.counters.Counters.hit_one.Goals as goal

-- the fields after a hit on a node
kept_after : (v w : CellLists) (queue items : List ℕ) (capacity wide y : ℕ) (on : Bool) → IsKept v.flags v.numbers queue capacity → y < length v.numbers
    → w ≡ counted_down v y → on ≡ comes_down v y → items ≡ queue ++ one_where on y → wide ≡ capacity → IsKept w.flags w.numbers items wide
kept_after v w queue items capacity wide y on h lt lower fires is same =
    let hit = one_hit v.flags v.numbers queue capacity h y lt in
    subst (λ (u : CellLists). IsKept u.flags u.numbers items wide) (sym lower)
    (subst (λ (xs : List ℕ). IsKept (counted_down v y).flags (counted_down v y).numbers xs wide) (sym (is ∙ ap (λ (b : Bool). queue ++ one_where b y) fires))
    (subst (λ (n : ℕ). IsKept (counted_down v y).flags (counted_down v y).numbers (queue ++ one_where (comes_down v y) y) n) (sym same) hit.kept))

pub invariant_of-self : goal.invariant_of-self
invariant_of-self c =
    let lt = subst (λ (w : CounterLists). c.args.node < length w.need) (sym c.self.view_is) c.requires in
    kept_after c.self.inside.cells c.hit.new.self c.self.inside.queue.items c.push_reserved.new.self.items c.self.inside.queue.cap
    c.push_reserved.new.self.cap c.args.node true c.self.invariant lt c.hit.ensures.lower (sym c.if-hit.true ∙ c.hit.ensures.fires)
    c.push_reserved.ensures.items c.push_reserved.ensures.capacity

pub invariant_of-self-else-hit : goal.invariant_of-self-else-hit
invariant_of-self-else-hit c =
    let lt = subst (λ (w : CounterLists). c.args.node < length w.need) (sym c.self.view_is) c.requires in
    kept_after c.self.inside.cells c.hit.new.self c.self.inside.queue.items c.self.inside.queue.items c.self.inside.queue.cap
    c.self.inside.queue.cap c.args.node false c.self.invariant lt c.hit.ensures.lower (sym c.if-hit.false ∙ c.hit.ensures.fires)
    (sym (append-nil c.self.inside.queue.items)) refl
