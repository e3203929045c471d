use Rattle.std.proofs.Common.{◌≡◌, refl, sym, arith, true≢false}
use Rattle.dl_lit.specs.declared.literal.Family.TheVariants.{Definite, Blocking, Propagating, Support}
use Rattle.dl_graph.specs.Numbers.{NetLists}
use Rattle.dl_marks.specs.Marks.{Marking}
use Rattle.dl_fill.specs.Families.{IsFilledBy}
use Rattle.dl_fill.specs.Filled.{IsRight}
use Rattle.dl_block.specs.Block.{block_table, block_fills}
use Rattle.dl_prop.specs.Propagation.{propagation_table, propagation_fills}
use Rattle.dl_update.proofs.EachFamily.{each_family, definite_below, apart, other_than}
use Rattle.dl_update.proofs.Whole.{still_ready, still_right, ready_fewer}
use Rattle.dl_update.proofs.saturate.all_marks.Goals as goal

pub fill_alone-requires-clause-below : goal.fill_alone-requires-clause-below
fill_alone-requires-clause-below g c = definite_below (IsRight c.args.net.now c.in_ok-marks.marks) c.in_ok-marks.ensures.right

pub fill_alone-requires-clause-ready : goal.fill_alone-requires-clause-ready
fill_alone-requires-clause-ready g c =
    ready_fewer c.args.net.now c.in_ok-region.region c.in_ok-marks.marks (IsFilledBy block_table) (λ f. ¬ (f ≡ Definite)) c.in_ok-marks.ensures.ready
    (other_than block_fills Definite refl)

pub fill_alone-requires-2-clause-below : goal.fill_alone-requires-2-clause-below
fill_alone-requires-2-clause-below g c =
    definite_below (IsRight c.args.net.now c.fill_alone.new.marks)
    (still_right c.args.net.now c.in_ok-marks.marks c.fill_alone.new.marks (IsFilledBy block_table) Definite
    c.in_ok-marks.ensures.right c.in_ok-fill_alone.ensures (λ e. true≢false (sym e)))

pub fill_alone-requires-2-clause-ready : goal.fill_alone-requires-2-clause-ready
fill_alone-requires-2-clause-ready g c =
    still_ready c.args.net.now c.in_ok-region.region c.in_ok-marks.marks c.fill_alone.new.marks (IsFilledBy block_table) (IsFilledBy propagation_table)
    (ready_fewer c.args.net.now c.in_ok-region.region c.in_ok-marks.marks (IsFilledBy propagation_table) (λ f. ¬ (f ≡ Definite)) c.in_ok-marks.ensures.ready
    (other_than propagation_fills Definite refl))
    c.in_ok-fill_alone.ensures (apart propagation_fills block_fills refl refl refl refl)

pub returns : goal.returns
returns g c =
    let N : NetLists = c.args.net.now in
    let one : Marking = c.in_ok-marks.marks in
    let two : Marking = c.fill_alone.new.marks in
    let three : Marking = c.fill_alone-2.new.marks in
    let first = c.in_ok-marks.ensures in
    let second = c.in_ok-fill_alone.ensures in
    let third = c.in_ok-fill_alone-2.ensures in
    record {
      room = omega (arith, first.room, second.places, third.places);
      right = each_family (IsRight N three)
          (still_right N two three (IsFilledBy propagation_table) Definite
          (still_right N one two (IsFilledBy block_table) Definite first.right second (λ e. true≢false (sym e))) third
          (λ e. true≢false (sym e)))
          (still_right N two three (IsFilledBy propagation_table) Blocking (second.right Blocking refl) third (λ e. true≢false (sym e)))
          (third.right Propagating refl) (third.right Support refl);
    }
