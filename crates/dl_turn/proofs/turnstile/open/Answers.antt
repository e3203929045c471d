use Rattle.dl_turn.proofs.Open.{opens, unopened}
use Rattle.dl_turn.proofs.turnstile.open.Goals as goal

pub push_as-requires-clause-rule : goal.push_as-requires-clause-rule
push_as-requires-clause-rule g c = (opens _ _ _ _ _ _ _ _ _ c.requires.pass.1 c.requires.empty c.requires.nobody, unopened _ _ _ _ _ _ _ c.requires.pass.1)
