use Rattle.std.proofs.Common.{refl, sym, arith, true≢false}
use Rattle.dl_lit.specs.declared.literal.Family.TheVariants.{Definite, Blocking, Propagating, Support}
use Rattle.dl_graph.specs.Numbers.{NetLists}
use Rattle.dl_marks.specs.Marks.{Marking}
use Rattle.dl_fill.specs.Families.{IsFilledBy}
use Rattle.dl_fill.specs.Filled.{IsRight}
use Rattle.dl_definite.specs.Definite.{definite_table, definite_fills}
use Rattle.dl_block.specs.Block.{block_table, block_fills}
use Rattle.dl_prop.specs.Propagation.{propagation_table, propagation_fills}
use Rattle.dl_update.proofs.EachFamily.{each_family, definite_below, apart}
use Rattle.dl_update.proofs.Whole.{still_ready, still_right, ready_fewer}
use Rattle.dl_update.proofs.saturate.fill_all.Goals as goal

pub fill-requires-clause-below : goal.fill-requires-clause-below
fill-requires-clause-below g c = λ f m. absurd (omega (arith, m.1))

pub fill-requires-clause-ready : goal.fill-requires-clause-ready
fill-requires-clause-ready g c =
    ready_fewer c.args.net.now c.args.region.now c.args.marks.now (IsFilledBy definite_table) (λ _. Unit {0}) c.requires.ready (λ f ours. tt)

pub fill-requires-2-clause-below : goal.fill-requires-2-clause-below
fill-requires-2-clause-below g c =
    definite_below (IsRight c.args.net.now c.fill.new.marks) (c.fill.ensures.filled.right Definite refl)

pub fill-requires-2-clause-ready : goal.fill-requires-2-clause-ready
fill-requires-2-clause-ready g c =
    still_ready c.args.net.now c.args.region.now c.args.marks.now c.fill.new.marks (IsFilledBy definite_table) (IsFilledBy block_table)
    (ready_fewer c.args.net.now c.args.region.now c.args.marks.now (IsFilledBy block_table) (λ _. Unit {0}) c.requires.ready (λ f ours. tt))
    c.fill.ensures.filled (apart block_fills definite_fills refl refl refl refl)

pub fill-requires-3-clause-below : goal.fill-requires-3-clause-below
fill-requires-3-clause-below g c =
    definite_below (IsRight c.args.net.now c.fill-2.new.marks)
    (still_right c.args.net.now c.fill.new.marks c.fill-2.new.marks (IsFilledBy block_table) Definite
    (c.fill.ensures.filled.right Definite refl) c.fill-2.ensures.filled (λ e. true≢false (sym e)))

pub fill-requires-3-clause-ready : goal.fill-requires-3-clause-ready
fill-requires-3-clause-ready g c =
    still_ready c.args.net.now c.args.region.now c.fill.new.marks c.fill-2.new.marks (IsFilledBy block_table) (IsFilledBy propagation_table)
    (still_ready c.args.net.now c.args.region.now c.args.marks.now c.fill.new.marks (IsFilledBy definite_table) (IsFilledBy propagation_table)
    (ready_fewer c.args.net.now c.args.region.now c.args.marks.now (IsFilledBy propagation_table) (λ _. Unit {0}) c.requires.ready (λ f ours. tt))
    c.fill.ensures.filled (apart propagation_fills definite_fills refl refl refl refl))
    c.fill-2.ensures.filled (apart propagation_fills block_fills refl refl refl refl)

pub returns-clause-right : goal.returns-clause-right
returns-clause-right g c =
    let N : NetLists = c.args.net.now in
    let one : Marking = c.fill.new.marks in
    let two : Marking = c.fill-2.new.marks in
    let three : Marking = c.fill-3.new.marks in
    let first = c.fill.ensures.filled in
    let second = c.fill-2.ensures.filled in
    let third = c.fill-3.ensures.filled in
    record {
      room = omega (arith, c.requires.ready.room, first.places, second.places, third.places);
      right = each_family (IsRight N three)
          (still_right N two three (IsFilledBy propagation_table) Definite
          (still_right N one two (IsFilledBy block_table) Definite (first.right Definite refl) second (λ e. true≢false (sym e))) third
          (λ e. true≢false (sym e)))
          (still_right N two three (IsFilledBy propagation_table) Blocking (second.right Blocking refl) third (λ e. true≢false (sym e)))
          (third.right Propagating refl) (third.right Support refl);
    }
