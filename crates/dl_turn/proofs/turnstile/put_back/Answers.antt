use Rattle.dl_turn.proofs.Give.{gives, empties, out_of}
use Rattle.dl_turn.proofs.turnstile.put_back.Goals as goal

pub push_as-requires-clause-rule : goal.push_as-requires-clause-rule
push_as-requires-clause-rule g c =
    (gives _ _ _ _ _ _ _ _ _ c.requires.pass.1 c.requires.start c.requires.may, empties _ _ _ _ _ _ _ c.requires.pass.1 (out_of _ _ _ _ _ c.requires.may))
