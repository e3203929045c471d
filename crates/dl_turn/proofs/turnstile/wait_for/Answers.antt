use Rattle.dl_turn.proofs.Take.{takes}
use Rattle.dl_turn.proofs.turnstile.wait_for.Goals as goal

pub try_pop_as-requires-clause-rule : goal.try_pop_as-requires-clause-rule
try_pop_as-requires-clause-rule g c = takes _ _ _ _ _ _ _ c.loop.invariant.1
