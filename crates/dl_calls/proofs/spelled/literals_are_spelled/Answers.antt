use Rattle.std.proofs.Common.{All, arith, subst}
use Rattle.std.proofs.lemmas.List.{take_all}
use Rattle.std.proofs.lemmas.List.Elements.{All-more}
use Rattle.dl_calls.specs.Spelled.{IsSpelledLiteral}
use Rattle.dl_calls.proofs.spelled.literals_are_spelled.Goals as goal

pub loop-literal-preserved : goal.loop-literal-preserved
loop-literal-preserved c =
    All-more IsSpelledLiteral c.args.literals.now c.loop-literal.literal-index c.literal-item.result (omega arith) c.loop-literal.invariant (subst IsSpelledLiteral c.literal-item.is c.literal_is_spelled.ensures)

pub returns : goal.returns
returns c = subst (All IsSpelledLiteral) (take_all c.loop-literal.literal-index c.args.literals.now (omega arith)) c.loop-literal.invariant
