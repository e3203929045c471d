use Rattle.std.proofs.Common.{◌<◌, [], ◌∷◌, ◌++◌, ap, sym, subst, ◌∙◌, arith}
use Rattle.dl_sessions.proofs.Closing.{ready_more}
use Rattle.dl_sessions.proofs.hall.Hall.enrol.Goals as goal

pub invariant_of-self-2 : goal.invariant_of-self-2
invariant_of-self-2 g c =
    let number = c.in_ok-_number.ensures in
    let kept = c.self.invariant in (
      ready_more c.self.inside.desk c.self.inside.base c.self.inside.seats.items c.push_reserved.new.self.items c.in_ok-seat.seat c.enrol.new.seat c.split.new.seat
          c.self.inside.share.amount c.enrol.new.share.amount c.in_ok-_number._number kept.0 c.split.ensures.same c.in_ok-seat.ensures.new c.enrol.ensures.stays number.tells number.number
          (c.push_reserved.ensures.items ∙ ap (λ l. l ++ c.enrol.new.seat ∷ []) c.reserve.ensures.items) number.amount,
      omega (arith, c.push_reserved.ensures.len, c.push_reserved-2.ensures.len, c.reserve.ensures.len, c.reserve-2.ensures.len, kept.1),
      c.enrol.ensures.parts ∙ kept.2,
      subst (λ n. 0 < n) (sym c.enrol.ensures.parts) kept.3,
    )
