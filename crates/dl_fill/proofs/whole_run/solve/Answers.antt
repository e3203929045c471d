use Rattle.std.proofs.Common.{◌≡◌, ℕ, ◌*◌, ◌<◌, ◌≤◌, inr, length, arith, subst, sym, ap, ◌∙◌}
use Rattle.dl_fill.specs.Before.{before_of, is_inside}
use Rattle.dl_fill.specs.Wires.{edges, inputs}
use Rattle.dl_fill.proofs.Inside.{edges_inside}
use Rattle.dl_fill.proofs.Begun.{fires_size}
use Rattle.dl_graph.specs.Counting.{times}
use Rattle.dl_fill.proofs.Starting.{length-places, lits_apart}
use Rattle.dl_fill.proofs.Solving.{region_few, idle_waits, area_fits, all_begun}
use Rattle.dl_fill.proofs.whole_run.solve.Goals as goal

pub begin_places-requires-clause-free : goal.begin_places-requires-clause-free
begin_places-requires-clause-free g c =
    let few : length c.args.region.now.members ≤ c.args.rules.now.bound =
    omega (arith, region_few c.args.region.now c.len-len.ensures.region, c.requires.bound, c.requires.names) in
    inr (omega (
      arith,
      ap length c.requires.clean.queue,
      idle_waits c.args.counters.now.need c.requires.clean.need,
      c.requires.size,
      area_fits (length c.args.region.now.members) 0 c.args.rules.now.bound c.args.literals c.args.width few (omega arith) c.requires.width,
    ))

pub begin_places-requires-2-clause-free : goal.begin_places-requires-2-clause-free
begin_places-requires-2-clause-free g c =
    let few : length c.args.region.now.members ≤ c.args.rules.now.bound =
    omega (arith, region_few c.args.region.now c.len-len.ensures.region, c.requires.bound, c.requires.names) in
    let fewer : length c.touch.new.rules.members ≤ c.args.rules.now.bound =
    omega (arith, region_few c.touch.new.rules c.len-touched.ensures.region, c.touch.ensures.bound) in
    inr (omega (
      arith,
      ap length c.requires.clean.queue,
      idle_waits c.args.counters.now.need c.requires.clean.need,
      c.requires.size,
      c.begin_places.ensures.few,
      c.begin_places.ensures.size,
      length-places c.args.width 0 c.args.literals c.args.region.now.members,
      area_fits (length c.args.region.now.members) (length c.touch.new.rules.members) c.args.rules.now.bound c.args.literals c.args.width few fewer c.requires.width,
    ))

pub begin_places-requires-clause-fresh : goal.begin_places-requires-clause-fresh
begin_places-requires-clause-fresh g c = inr (λ y h. ap (times y) c.requires.clean.queue)

pub begin_places-requires-2-clause-fresh : goal.begin_places-requires-2-clause-fresh
begin_places-requires-2-clause-fresh g c =
    inr (λ y h.
    c.begin_places.ensures.queue_out y
    (lits_apart (inputs c.args.net.now (is_inside c.args.region.now.members) c.args.width c.args.wires.now)
    (g.G.Gates.tells c.args.gates.now c.args.net.now (before_of c.args.marks.now c.args.region.now)) c.args.width c.args.literals c.requires.width
    c.args.region.now.members c.touch.new.rules.members y h)
    ∙ ap (times y) c.requires.clean.queue)

pub run-requires-clause-inside : goal.run-requires-clause-inside
run-requires-clause-inside g c = λ x y lt m.
    let size : length c.begin_places-2.new.counters.need ≡ c.args.rules.now.bound * c.args.width = c.begin_places-2.ensures.size ∙ c.begin_places.ensures.size ∙ c.requires.size in
    let r = edges_inside c.args.net.now c.names-names.ensures.numbered c.args.width c.args.rules.now.bound c.requires.names c.requires.rules
    c.args.wires.now c.requires.kinds x y (subst (λ (n : ℕ). x < n) size lt) m in
    subst (λ (n : ℕ). y < n) (sym size) r

pub returns-clause-run : goal.returns-clause-run
returns-clause-run g c = record {
  touches = c.touch.ensures.touches;
  middle = c.begin_places-2.new.counters;
  begun =
      all_begun (inputs c.args.net.now (is_inside c.args.region.now.members) c.args.width c.args.wires.now)
      (g.G.Gates.tells c.args.gates.now c.args.net.now (before_of c.args.marks.now c.args.region.now)) c.args.width c.args.literals c.args.rules.now.bound c.requires.width
      c.args.region.now.members c.touch.new.rules.members
      (λ k d lt. omega (arith, c.len-len.ensures.region.below k d lt, c.requires.bound, c.requires.names))
      (λ k d lt. omega (arith, c.len-touched.ensures.region.below k d lt, c.touch.ensures.bound))
      (omega (arith, region_few c.args.region.now c.len-len.ensures.region, c.requires.bound, c.requires.names))
      (omega (arith, region_few c.touch.new.rules c.len-touched.ensures.region, c.touch.ensures.bound))
      c.args.counters.now c.begin_places.new.counters c.begin_places-2.new.counters c.requires.size c.requires.clean c.begin_places.ensures c.begin_places-2.ensures;
  inside = λ x y lt m.
      let size : length c.begin_places-2.new.counters.need ≡ c.args.rules.now.bound * c.args.width = c.begin_places-2.ensures.size ∙ c.begin_places.ensures.size ∙ c.requires.size in
      let r = edges_inside c.args.net.now c.names-names.ensures.numbered c.args.width c.args.rules.now.bound c.requires.names c.requires.rules
      c.args.wires.now c.requires.kinds x y (subst (λ (n : ℕ). x < n) size lt) m in
      subst (λ (n : ℕ). y < n) (sym size) r;
  out = c.run.ensures;
}

pub returns-clause-size : goal.returns-clause-size
returns-clause-size g c =
    fires_size (edges c.args.net.now c.args.width c.args.wires.now) c.begin_places-2.new.counters c.run.ensures.head c.run.new.counters c.run.ensures.fires
    ∙ c.begin_places-2.ensures.size ∙ c.begin_places.ensures.size
