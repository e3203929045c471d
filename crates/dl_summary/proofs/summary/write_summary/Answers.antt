use Rattle.std.proofs.Common.{◌++◌}
use Rattle.std.proofs.lemmas.Result.{err_from_is_err_and}
use Rattle.dl_print.proofs.Writes.{cut_first, then_all, cut_after}
use Rattle.dl_summary.specs.Summary.{edits_text, editions_text, lists_text, survey_text, checked_text}
use Rattle.dl_summary.proofs.summary.write_summary.Goals as goal

pub returns-in_err-write_edits-clause-bytes : goal.returns-in_err-write_edits-clause-bytes
returns-in_err-write_edits-clause-bytes g c =
    let p = err_from_is_err_and c.from_residual.result c.from_residual.ensures.1 in
    rw p.1 (cut_first _ _ (edits_text c.args.summary.now) (editions_text c.args.summary.now ++ (lists_text c.args.summary.now ++ (survey_text c.args.summary.now.survey ++ checked_text c.args.summary.now.survey))) c.in_err-write_edits.ensures.bytes)

pub returns-in_err-write_editions-clause-bytes : goal.returns-in_err-write_editions-clause-bytes
returns-in_err-write_editions-clause-bytes g c =
    let p = err_from_is_err_and c.from_residual-in_err-write_editions.result c.from_residual-in_err-write_editions.ensures.1 in
    rw p.1 (cut_after _ _ _ (edits_text c.args.summary.now) (editions_text c.args.summary.now ++ (lists_text c.args.summary.now ++ (survey_text c.args.summary.now.survey ++ checked_text c.args.summary.now.survey))) c.in_ok-write_edits.ensures.bytes
    (cut_first _ _ (editions_text c.args.summary.now) (lists_text c.args.summary.now ++ (survey_text c.args.summary.now.survey ++ checked_text c.args.summary.now.survey)) c.in_err-write_editions.ensures.bytes))

pub returns-in_err-write_lists-clause-bytes : goal.returns-in_err-write_lists-clause-bytes
returns-in_err-write_lists-clause-bytes g c =
    let p = err_from_is_err_and c.from_residual-in_err-write_lists.result c.from_residual-in_err-write_lists.ensures.1 in
    rw p.1 (cut_after _ _ _ (edits_text c.args.summary.now) (editions_text c.args.summary.now ++ (lists_text c.args.summary.now ++ (survey_text c.args.summary.now.survey ++ checked_text c.args.summary.now.survey))) c.in_ok-write_edits.ensures.bytes
    (cut_after _ _ _ (editions_text c.args.summary.now) (lists_text c.args.summary.now ++ (survey_text c.args.summary.now.survey ++ checked_text c.args.summary.now.survey)) c.in_ok-write_editions.ensures.bytes
    (cut_first _ _ (lists_text c.args.summary.now) (survey_text c.args.summary.now.survey ++ checked_text c.args.summary.now.survey) c.in_err-write_lists.ensures.bytes)))

pub returns-in_err-write_survey-clause-bytes : goal.returns-in_err-write_survey-clause-bytes
returns-in_err-write_survey-clause-bytes g c =
    let p = err_from_is_err_and c.from_residual-in_err-write_survey.result c.from_residual-in_err-write_survey.ensures.1 in
    rw p.1 (cut_after _ _ _ (edits_text c.args.summary.now) (editions_text c.args.summary.now ++ (lists_text c.args.summary.now ++ (survey_text c.args.summary.now.survey ++ checked_text c.args.summary.now.survey))) c.in_ok-write_edits.ensures.bytes
    (cut_after _ _ _ (editions_text c.args.summary.now) (lists_text c.args.summary.now ++ (survey_text c.args.summary.now.survey ++ checked_text c.args.summary.now.survey)) c.in_ok-write_editions.ensures.bytes
    (cut_after _ _ _ (lists_text c.args.summary.now) (survey_text c.args.summary.now.survey ++ checked_text c.args.summary.now.survey) c.in_ok-write_lists.ensures.bytes
    (cut_first _ _ (survey_text c.args.summary.now.survey) (checked_text c.args.summary.now.survey) c.in_err-write_survey.ensures.bytes))))

pub returns-clause-bytes : goal.returns-clause-bytes
returns-clause-bytes g c =
    then_all _ _ _ _ (edits_text c.args.summary.now) (editions_text c.args.summary.now ++ (lists_text c.args.summary.now ++ (survey_text c.args.summary.now.survey ++ checked_text c.args.summary.now.survey))) c.in_ok-write_edits.ensures.bytes
    (then_all _ _ _ _ (editions_text c.args.summary.now) (lists_text c.args.summary.now ++ (survey_text c.args.summary.now.survey ++ checked_text c.args.summary.now.survey)) c.in_ok-write_editions.ensures.bytes
    (then_all _ _ _ _ (lists_text c.args.summary.now) (survey_text c.args.summary.now.survey ++ checked_text c.args.summary.now.survey) c.in_ok-write_lists.ensures.bytes
    (then_all _ _ _ _ (survey_text c.args.summary.now.survey) (checked_text c.args.summary.now.survey) c.in_ok-write_survey.ensures.bytes
    c.write_checked.ensures.bytes)))
