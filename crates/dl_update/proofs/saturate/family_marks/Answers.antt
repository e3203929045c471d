use Rattle.dl_fill.specs.Filled.{IsRight}
use Rattle.dl_fill.specs.Families.{IsFilledBy}
use Rattle.dl_lit.specs.declared.literal.Family.TheVariants.{Definite}
use Rattle.std.proofs.Common.{◌≡◌, refl}
use Rattle.dl_block.specs.Block.{block_table, block_fills}
use Rattle.dl_prop.specs.Propagation.{propagation_table, propagation_fills}
use Rattle.dl_update.proofs.EachFamily.{definite_below, other_than}
use Rattle.dl_update.proofs.Whole.{ready_fewer}
use Rattle.dl_update.proofs.saturate.family_marks.Goals as goal

pub fill_alone-requires-clause-below : goal.fill_alone-requires-clause-below
fill_alone-requires-clause-below g c = definite_below (IsRight c.args.net.now c.in_ok-marks.marks) c.in_ok-marks.ensures.right

pub fill_alone-requires-clause-ready : goal.fill_alone-requires-clause-ready
fill_alone-requires-clause-ready g c =
    ready_fewer c.args.net.now c.in_ok-region.region c.in_ok-marks.marks (IsFilledBy block_table) (λ f. ¬ (f ≡ Definite)) c.in_ok-marks.ensures.ready
    (other_than block_fills Definite refl)

pub fill_alone-requires-in-Propagating-clause-below : goal.fill_alone-requires-in-Propagating-clause-below
fill_alone-requires-in-Propagating-clause-below g c = definite_below (IsRight c.args.net.now c.in_ok-marks.marks) c.in_ok-marks.ensures.right

pub fill_alone-requires-in-Propagating-clause-ready : goal.fill_alone-requires-in-Propagating-clause-ready
fill_alone-requires-in-Propagating-clause-ready g c =
    ready_fewer c.args.net.now c.in_ok-region.region c.in_ok-marks.marks (IsFilledBy propagation_table) (λ f. ¬ (f ≡ Definite)) c.in_ok-marks.ensures.ready
    (other_than propagation_fills Definite refl)

pub fill_alone-requires-in-Support-clause-below : goal.fill_alone-requires-in-Support-clause-below
fill_alone-requires-in-Support-clause-below g c = definite_below (IsRight c.args.net.now c.in_ok-marks.marks) c.in_ok-marks.ensures.right

pub fill_alone-requires-in-Support-clause-ready : goal.fill_alone-requires-in-Support-clause-ready
fill_alone-requires-in-Support-clause-ready g c =
    ready_fewer c.args.net.now c.in_ok-region.region c.in_ok-marks.marks (IsFilledBy propagation_table) (λ f. ¬ (f ≡ Definite)) c.in_ok-marks.ensures.ready
    (other_than propagation_fills Definite refl)
