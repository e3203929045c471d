use Rattle.dl_read.specs.Grammar.{has_variables}
use Rattle.dl_request.proofs.CutWords.{clash}
use Rattle.dl_read.proofs.Decided.{edits_are_decided}
use Rattle.dl_request.proofs.read.edit.Goals as goal

pub returns-in-Err-Variables : goal.returns-in-Err-Variables
returns-in-Err-Variables c =
    let v = rw c.in-Err-Variables.field-0-is at c.in-Err-Variables.ensures in
    λ e h. clash (has_variables c.args.line.now) v (edits_are_decided.plain c.args.line.now e h)
