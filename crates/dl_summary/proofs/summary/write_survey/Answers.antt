use Rattle.std.proofs.Common.{◌++◌}
use Rattle.std.specs.Prelude.{codes}
use Rattle.std.proofs.lemmas.Result.{err_from_is_err_and}
use Rattle.dl_print.proofs.Writes.{cut_first, then_all, cut_after}
use Rattle.dl_summary.specs.Summary.{verdicts_text}
use Rattle.dl_summary.proofs.summary.write_survey.Goals as goal

pub returns-in_err-write_verdicts-clause-bytes : goal.returns-in_err-write_verdicts-clause-bytes
returns-in_err-write_verdicts-clause-bytes g c =
    let p = err_from_is_err_and c.from_residual.result c.from_residual.ensures.1 in
    rw p.1 (cut_first _ _ (verdicts_text (codes "D") c.args.survey.now.definite) (verdicts_text (codes "d") c.args.survey.now.blocking ++ (verdicts_text (codes "a") c.args.survey.now.propagating ++ verdicts_text (codes "s") c.args.survey.now.support)) c.in_err-write_verdicts.ensures.bytes)

pub returns-in_err-write_verdicts-2-clause-bytes : goal.returns-in_err-write_verdicts-2-clause-bytes
returns-in_err-write_verdicts-2-clause-bytes g c =
    let p = err_from_is_err_and c.from_residual-in_err-write_verdicts-2.result c.from_residual-in_err-write_verdicts-2.ensures.1 in
    rw p.1 (cut_after _ _ _ (verdicts_text (codes "D") c.args.survey.now.definite) (verdicts_text (codes "d") c.args.survey.now.blocking ++ (verdicts_text (codes "a") c.args.survey.now.propagating ++ verdicts_text (codes "s") c.args.survey.now.support)) c.in_ok-write_verdicts.ensures.bytes
    (cut_first _ _ (verdicts_text (codes "d") c.args.survey.now.blocking) (verdicts_text (codes "a") c.args.survey.now.propagating ++ verdicts_text (codes "s") c.args.survey.now.support) c.in_err-write_verdicts-2.ensures.bytes))

pub returns-in_err-write_verdicts-3-clause-bytes : goal.returns-in_err-write_verdicts-3-clause-bytes
returns-in_err-write_verdicts-3-clause-bytes g c =
    let p = err_from_is_err_and c.from_residual-in_err-write_verdicts-3.result c.from_residual-in_err-write_verdicts-3.ensures.1 in
    rw p.1 (cut_after _ _ _ (verdicts_text (codes "D") c.args.survey.now.definite) (verdicts_text (codes "d") c.args.survey.now.blocking ++ (verdicts_text (codes "a") c.args.survey.now.propagating ++ verdicts_text (codes "s") c.args.survey.now.support)) c.in_ok-write_verdicts.ensures.bytes
    (cut_after _ _ _ (verdicts_text (codes "d") c.args.survey.now.blocking) (verdicts_text (codes "a") c.args.survey.now.propagating ++ verdicts_text (codes "s") c.args.survey.now.support) c.in_ok-write_verdicts-2.ensures.bytes
    (cut_first _ _ (verdicts_text (codes "a") c.args.survey.now.propagating) (verdicts_text (codes "s") c.args.survey.now.support) c.in_err-write_verdicts-3.ensures.bytes)))

pub returns-clause-bytes : goal.returns-clause-bytes
returns-clause-bytes g c =
    then_all _ _ _ _ (verdicts_text (codes "D") c.args.survey.now.definite) (verdicts_text (codes "d") c.args.survey.now.blocking ++ (verdicts_text (codes "a") c.args.survey.now.propagating ++ verdicts_text (codes "s") c.args.survey.now.support)) c.in_ok-write_verdicts.ensures.bytes
    (then_all _ _ _ _ (verdicts_text (codes "d") c.args.survey.now.blocking) (verdicts_text (codes "a") c.args.survey.now.propagating ++ verdicts_text (codes "s") c.args.survey.now.support) c.in_ok-write_verdicts-2.ensures.bytes
    (then_all _ _ _ _ (verdicts_text (codes "a") c.args.survey.now.propagating) (verdicts_text (codes "s") c.args.survey.now.support) c.in_ok-write_verdicts-3.ensures.bytes
    c.write_verdicts-4.ensures.bytes))
