use Rattle.std.proofs.Common.{ℕ, ◌/◌, ◌%◌, List, inl, inr, length, take, arith, subst, sym, ◌∙◌}
use Rattle.dl_fill.specs.Before.{before_of, is_inside}
use Rattle.dl_fill.specs.Wires.{inputs}
use Rattle.dl_fill.specs.Prepared.{Begins, nodes_at, all_nodes}
use Rattle.dl_fill.proofs.Starting.{begins_join, length-all, rows_fit, places_more, place_fresh, all_has}
use Rattle.dl_fill.proofs.Touching.{within_at, all_at}
use Rattle.std.proofs.lemmas.Option.{get_or_from_slice_get}
use Rattle.dl_fill.proofs.whole_run.begin_places.Goals as goal

pub begin_place-requires-clause-free : goal.begin_place-requires-clause-free
begin_place-requires-clause-free g c =
    elim c.requires.free [
      | inl never ↦ inl never
      | inr room ↦
          let lt = within_at c.args.all.now.members c.loop-at.at c.in-Some.place (sym c.at.ensures.member ∙ c.in-Some.is) in
          inr (omega (
            arith,
            room,
            c.loop-at.invariant.begins.few,
            c.loop-at.invariant.begins.size,
            length-all c.args.width c.args.from c.args.count c.args.all.now.members c.loop-at.at c.loop-at.invariant.within,
            rows_fit c.loop-at.at (length c.args.all.now.members) c.args.count lt,
          ))
    ]

pub begin_place-requires-clause-fresh : goal.begin_place-requires-clause-fresh
begin_place-requires-clause-fresh g c =
    let lt = within_at c.args.all.now.members c.loop-at.at c.in-Some.place (sym c.at.ensures.member ∙ c.in-Some.is) in
    elim c.requires.fresh [
      | inl never ↦ inl never
      | inr fresh ↦ inr (λ y h.
          c.loop-at.invariant.begins.queue_out y
          (place_fresh c.args.width c.args.from c.args.count c.args.all.now.members c.loop-at.at c.in-Some.place c.requires.kinds c.len-len.ensures.region.distinct
          (sym c.at.ensures.member ∙ c.in-Some.is) y h)
          ∙ fresh y (all_has c.args.width c.args.from c.args.count c.args.all.now.members c.loop-at.at c.in-Some.place y lt
          (get_or_from_slice_get c.args.all.now.members c.loop-at.at c.in-Some.place c.in-Some.place (sym c.at.ensures.member ∙ c.in-Some.is)) h))
    ]

pub overflow_add-at : goal.overflow_add-at
overflow_add-at g c =
    let lt = within_at c.args.all.now.members c.loop-at.at c.in-Some.place (sym c.at.ensures.member ∙ c.in-Some.is) in
    omega (arith, lt, c.len-len.ensures.len, c.len-len.type_inv)

pub loop-at-smaller : goal.loop-at-smaller
loop-at-smaller g c =
    let lt = within_at c.args.all.now.members c.loop-at.at c.in-Some.place (sym c.at.ensures.member ∙ c.in-Some.is) in
    omega (arith, lt)

pub loop-at-preserved : goal.loop-at-preserved
loop-at-preserved g c =
    let lt = within_at c.args.all.now.members c.loop-at.at c.in-Some.place (sym c.at.ensures.member ∙ c.in-Some.is) in
    record {
      begins =
          subst (λ (xs : List ℕ). Begins (inputs c.args.net.now (is_inside c.args.region.now.members) c.args.width c.args.wires.now)
          (λ y. g.G.Gates.tells c.args.gates.now c.args.net.now (before_of c.args.marks.now c.args.region.now) (y % c.args.width) (y / c.args.width)) xs c.args.counters.now c.begin_place.new.counters)
          (sym (places_more c.args.width c.args.from c.args.count c.args.all.now.members c.loop-at.at c.in-Some.place lt
          (get_or_from_slice_get c.args.all.now.members c.loop-at.at c.in-Some.place c.in-Some.place (sym c.at.ensures.member ∙ c.in-Some.is))))
          (begins_join (inputs c.args.net.now (is_inside c.args.region.now.members) c.args.width c.args.wires.now)
          (λ y. g.G.Gates.tells c.args.gates.now c.args.net.now (before_of c.args.marks.now c.args.region.now) (y % c.args.width) (y / c.args.width))
          (all_nodes c.args.width c.args.from c.args.count (take c.loop-at.at c.args.all.now.members)) (nodes_at c.args.width c.args.from c.args.count c.in-Some.place)
          c.args.counters.now c.loop-at.counters c.begin_place.new.counters c.loop-at.invariant.begins c.begin_place.ensures
          (λ y h. place_fresh c.args.width c.args.from c.args.count c.args.all.now.members c.loop-at.at c.in-Some.place c.requires.kinds c.len-len.ensures.region.distinct
          (sym c.at.ensures.member ∙ c.in-Some.is) y h));
      within = omega (arith, lt);
    }

pub returns : goal.returns
returns g c =
    subst (λ (xs : List ℕ). Begins (inputs c.args.net.now (is_inside c.args.region.now.members) c.args.width c.args.wires.now)
    (λ y. g.G.Gates.tells c.args.gates.now c.args.net.now (before_of c.args.marks.now c.args.region.now) (y % c.args.width) (y / c.args.width))
    (all_nodes c.args.width c.args.from c.args.count xs) c.args.counters.now c.loop-at.counters)
    (all_at c.args.all.now.members c.loop-at.at (sym c.at.ensures.member ∙ c.in_default.is)) c.loop-at.invariant.begins
