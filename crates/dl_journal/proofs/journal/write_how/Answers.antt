use Rattle.std.proofs.Common.{◌++◌, [], ◌∷◌, codes, ℕ, List, subst}
use Rattle.std.proofs.lemmas.Result.{err_from_is_err_and}
use Rattle.dl_journal.specs.Journal.{end_words}
use Rattle.dl_print.proofs.Writes.{Cuts, cut_first, cut_after, then_all}
use Rattle.dl_journal.proofs.journal.write_how.Goals as goal

pub returns-in_err-write_all-clause-bytes : goal.returns-in_err-write_all-clause-bytes
returns-in_err-write_all-clause-bytes g c =
    let p = err_from_is_err_and c.from_residual.result c.from_residual.ensures.1 in
    rw p.1 (cut_first _ _ (codes " ") (end_words c.args.end ++ (10 ∷ [])) c.in_err-write_all.ensures.bytes)

pub returns-in_err-write_all-2-clause-bytes : goal.returns-in_err-write_all-2-clause-bytes
returns-in_err-write_all-2-clause-bytes g c =
    let p = err_from_is_err_and c.from_residual-in_err-write_all-2.result c.from_residual-in_err-write_all-2.ensures.1 in
    let cut = subst (λ (words : List ℕ). Cuts (g.S.Sink.written c.write_all.new.sink) (g.S.Sink.written c.write_all-2.new.sink) words) c.words_of.ensures c.in_err-write_all-2.ensures.bytes in
    rw p.1 (cut_after _ _ _ (codes " ") (end_words c.args.end ++ (10 ∷ [])) c.in_ok-write_all.ensures.bytes (cut_first _ _ (end_words c.args.end) (10 ∷ []) cut))

pub returns-clause-bytes : goal.returns-clause-bytes
returns-clause-bytes g c =
    then_all _ _ _ _ (codes " ") (end_words c.args.end ++ (10 ∷ [])) c.in_ok-write_all.ensures.bytes
    (then_all _ _ _ _ (end_words c.args.end) (10 ∷ []) (rw c.words_of.ensures at c.in_ok-write_all-2.ensures.bytes) c.write_all-3.ensures.bytes)
