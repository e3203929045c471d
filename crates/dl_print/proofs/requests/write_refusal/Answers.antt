use Rattle.std.proofs.lemmas.Result.{err_from_is_err_and}
use Rattle.dl_print.specs.Text.{cause_text, labels_text}
use Rattle.dl_print.proofs.Writes.{cut_first, then_all}
use Rattle.dl_print.proofs.requests.write_refusal.Goals as goal

pub returns-in_err-write_cause-clause-bytes : goal.returns-in_err-write_cause-clause-bytes
returns-in_err-write_cause-clause-bytes g c =
    let p = err_from_is_err_and c.from_residual.result c.from_residual.ensures.1 in
    rw p.1 (cut_first _ _ (cause_text c.args.refusal.now) (labels_text c.args.refusal.now) c.in_err-write_cause.ensures.bytes)

pub returns-clause-bytes : goal.returns-clause-bytes
returns-clause-bytes g c = then_all _ _ _ _ (cause_text c.args.refusal.now) (labels_text c.args.refusal.now) c.in_ok-write_cause.ensures.bytes c.write_labels.ensures.bytes
