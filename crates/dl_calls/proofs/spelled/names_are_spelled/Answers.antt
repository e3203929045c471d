use Rattle.std.proofs.Common.{All, arith, subst}
use Rattle.std.proofs.lemmas.List.{take_all}
use Rattle.std.proofs.lemmas.List.Elements.{All-more}
use Rattle.dl_calls.specs.Spelled.{IsName}
use Rattle.dl_calls.proofs.spelled.names_are_spelled.Goals as goal

pub loop-name-preserved : goal.loop-name-preserved
loop-name-preserved c =
    All-more IsName c.args.names.now c.loop-name.name-index c.name-item.result (omega arith) c.loop-name.invariant (subst IsName c.name-item.is c.name_is_spelled.ensures)

pub returns : goal.returns
returns c = subst (All IsName) (take_all c.loop-name.name-index c.args.names.now (omega arith)) c.loop-name.invariant
