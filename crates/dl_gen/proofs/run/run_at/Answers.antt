use Rattle.std.proofs.Common.{IsSome, ap, sym, subst, refl, ◌∙◌, arith}
use Rattle.dl_gen.specs.Running.{IsRun}
use Rattle.dl_gen.proofs.OneSeat.{is_run}
use Rattle.dl_gen.proofs.run.run_at.Goals as goal

pub make_each-requires-clause-may : goal.make_each-requires-clause-may
make_each-requires-clause-may g c = record {
  numbered = subst IsSome (sym c.in_ok-_number.ensures.number.1) refl;
  within = c.enrol.ensures.stays.within;
}

pub returns : goal.returns
returns g c =
    let number = c.in_ok-_number.ensures in
    let end = c.finish-board.ensures in
    subst (λ b. IsRun c.args.theory.now c.args.calls.items b) (sym c.audit.ensures.board)
    (is_run c.args.theory.now c.args.desk c.args.seat c.enrol.new.seat c.make_each.new.seat c.args.calls.items c.in_ok-_number._number c.finish-board.result.0
    c.requires.seat c.enrol.ensures.stays number.tells number.number.1 (number.number.0 ∙ c.requires.amount) c.in_ok-make_each.ensures end.start end.legal end.mine end.lines
    (omega (arith, ap (λ b. b.enrolled) c.audit.ensures.board, c.audit.ensures.enrolled, number.amount, c.requires.amount)))
