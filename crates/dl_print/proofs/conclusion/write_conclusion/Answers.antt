use Rattle.std.proofs.lemmas.Result.{err_from_is_err_and}
use Rattle.dl_lit.specs.Borrowed.{literal_of}
use Rattle.dl_print.specs.Text.{literal_text}
use Rattle.dl_print.specs.Conclusion.{verdict_text}
use Rattle.dl_print.proofs.Writes.{cut_first, then_all}
use Rattle.dl_print.proofs.conclusion.write_conclusion.Goals as goal

pub returns-in_err-write_verdict-clause-bytes : goal.returns-in_err-write_verdict-clause-bytes
returns-in_err-write_verdict-clause-bytes g c =
    let p = err_from_is_err_and c.from_residual.result c.from_residual.ensures.1 in
    rw p.1 (cut_first _ _ (verdict_text c.args.verdict c.args.family) (literal_text (literal_of c.args.literal)) c.in_err-write_verdict.ensures.bytes)

pub returns-clause-bytes : goal.returns-clause-bytes
returns-clause-bytes g c = then_all _ _ _ _ (verdict_text c.args.verdict c.args.family) (literal_text (literal_of c.args.literal)) c.in_ok-write_verdict.ensures.bytes c.write_literal_ref.ensures.bytes
