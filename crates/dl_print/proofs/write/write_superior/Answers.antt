use Rattle.std.proofs.Common.{[], ◌∷◌, ◌++◌}
use Rattle.std.proofs.lemmas.Result.{err_from_is_err_and}
use Rattle.dl_print.proofs.Writes.{cut_first, cut_after, then_all}
use Rattle.dl_print.proofs.write.write_superior.Goals as goal

pub returns-in_err-write_name-clause-bytes : goal.returns-in_err-write_name-clause-bytes
returns-in_err-write_name-clause-bytes g c = let p = err_from_is_err_and c.from_residual.result c.from_residual.ensures.1 in rw p.1 (cut_first _ _ c.args.upper.now ((32 ∷ 62 ∷ 32 ∷ []) ++ (c.args.lower.now)) c.in_err-write_name.ensures.bytes)

pub returns-in_err-write_all-clause-bytes : goal.returns-in_err-write_all-clause-bytes
returns-in_err-write_all-clause-bytes g c = let p = err_from_is_err_and c.from_residual-in_err-write_all.result c.from_residual-in_err-write_all.ensures.1 in rw p.1 (cut_after _ _ _ c.args.upper.now ((32 ∷ 62 ∷ 32 ∷ []) ++ (c.args.lower.now)) c.in_ok-write_name.ensures.bytes (cut_first _ _ (32 ∷ 62 ∷ 32 ∷ []) (c.args.lower.now) c.in_err-write_all.ensures.bytes))

pub returns-clause-bytes : goal.returns-clause-bytes
returns-clause-bytes g c = then_all _ _ _ _ c.args.upper.now ((32 ∷ 62 ∷ 32 ∷ []) ++ (c.args.lower.now)) c.in_ok-write_name.ensures.bytes (then_all _ _ _ _ (32 ∷ 62 ∷ 32 ∷ []) (c.args.lower.now) c.in_ok-write_all.ensures.bytes (c.write_name-2.ensures.bytes))
