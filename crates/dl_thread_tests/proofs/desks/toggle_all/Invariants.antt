use Rattle.dl_edition.specs.Offices.{MayCall}
use Rattle.dl_thread_tests.proofs.desks.toggle_all.Given as goal

abbrev pub invariant-loop : goal.invariant-loop
invariant-loop g l = record {
  belongs : g.O.Office.belongs l.office l.seat;
  may : MayCall l.seat;
}
