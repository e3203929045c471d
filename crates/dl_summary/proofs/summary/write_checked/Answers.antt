use Rattle.std.proofs.Common.{◌≡◌, ℕ, ◌++◌, [], ◌∷◌, length, subst, arith}
use Rattle.std.specs.Prelude.{codes}
use Rattle.std.proofs.lemmas.Result.{err_from_is_err_and}
use Rattle.dl_io.specs.Streams.{WritesAll}
use Rattle.dl_print.proofs.Writes.{Cuts, cut_first, then_all}
use Rattle.dl_summary.specs.Summary.{counted_text}
use Rattle.dl_summary.proofs.summary.write_checked.Goals as goal

pub returns-in_err-write_counted-clause-bytes : goal.returns-in_err-write_counted-clause-bytes
returns-in_err-write_counted-clause-bytes g c =
    let p = err_from_is_err_and c.from_residual.result c.from_residual.ensures.1 in
    let count : c.len.result ≡ length c.args.survey.now.checked.items = omega (arith, c.len.ensures, c.args.survey.now.checked.ok.0) in
    rw p.1 (subst (λ (n : ℕ). Cuts (g.S.Sink.written c.args.sink.now) (g.S.Sink.written c.write_counted.new.sink) (counted_text (codes "checked ") n ++ 10 ∷ [])) count
    (cut_first _ _ (counted_text (codes "checked ") c.len.result) (10 ∷ []) c.in_err-write_counted.ensures.bytes))

pub returns-clause-bytes : goal.returns-clause-bytes
returns-clause-bytes g c =
    let count : c.len.result ≡ length c.args.survey.now.checked.items = omega (arith, c.len.ensures, c.args.survey.now.checked.ok.0) in
    subst (λ (n : ℕ). WritesAll (g.S.Sink.written c.args.sink.now) (g.S.Sink.written c.write_all.new.sink) c.write_all.result (counted_text (codes "checked ") n ++ 10 ∷ [])) count
    (then_all _ _ _ _ (counted_text (codes "checked ") c.len.result) (10 ∷ []) c.in_ok-write_counted.ensures.bytes c.write_all.ensures.bytes)
