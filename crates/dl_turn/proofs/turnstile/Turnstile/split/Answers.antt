use Rattle.dl_turn.proofs.Split.{forks}
use Rattle.dl_turn.proofs.turnstile.Turnstile.split.Goals as goal

pub another-pass-requires-clause-rule : goal.another-pass-requires-clause-rule
another-pass-requires-clause-rule g c = forks _ _ _ _ _ _ _ c.seat.invariant.seated
