use Rattle.std.proofs.Common.{◌≡◌, refl, arith}
use Rattle.dl_lit.specs.declared.literal.Family.TheVariants.{Definite}
use Rattle.dl_fill.specs.Families.{IsFilledBy}
use Rattle.dl_definite.specs.Definite.{definite_table}
use Rattle.dl_update.proofs.EachFamily.{one_definite}
use Rattle.dl_update.proofs.Whole.{still_ready, ready_fewer}
use Rattle.dl_update.proofs.saturate.begun.Goals as goal

pub fill_alone-requires-clause-below : goal.fill_alone-requires-clause-below
fill_alone-requires-clause-below g c = λ f m. absurd (omega (arith, m.1))

pub fill_alone-requires-clause-ready : goal.fill_alone-requires-clause-ready
fill_alone-requires-clause-ready g c =
    ready_fewer c.args.net.now c.args.region.now c.in_ok-marks.marks (IsFilledBy definite_table) (λ _. Unit {0}) c.in_ok-marks.ensures (λ f ours. tt)

pub returns-clause-right : goal.returns-clause-right
returns-clause-right g c = c.in_ok-fill_alone.ensures.right Definite refl

pub returns-clause-ready : goal.returns-clause-ready
returns-clause-ready g c =
    still_ready c.args.net.now c.args.region.now c.in_ok-marks.marks c.fill_alone.new.marks (IsFilledBy definite_table) (λ f. ¬ (f ≡ Definite))
    (ready_fewer c.args.net.now c.args.region.now c.in_ok-marks.marks (λ f. ¬ (f ≡ Definite)) (λ _. Unit {0}) c.in_ok-marks.ensures (λ f ours. tt))
    c.in_ok-fill_alone.ensures (λ f other ours. other (one_definite f ours))
