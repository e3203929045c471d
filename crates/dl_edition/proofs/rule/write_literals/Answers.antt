use Rattle.std.proofs.Common.{[], ◌∷◌, ◌++◌, drop}
use Rattle.std.proofs.lemmas.Result.{err_from_is_err_and}
use Rattle.std.specs.List.{flat_map}
use Rattle.dl_lit.specs.Borrowed.{literal_of}
use Rattle.dl_print.specs.Text.{literal_text, comma_text}
use Rattle.dl_print.proofs.Writes.{cut_first, cut_after, then_all}
use Rattle.dl_edition.proofs.rule.write_literals.Goals as goal

pub returns-in_err-write_literal_ref-clause-bytes : goal.returns-in_err-write_literal_ref-clause-bytes
returns-in_err-write_literal_ref-clause-bytes g c = let p = err_from_is_err_and c.from_residual.result c.from_residual.ensures.1 in rw p.1 (cut_first _ _ (literal_text (literal_of c.args.first)) ((flat_map comma_text (drop 1 c.args.rule.now.body)) ++ ((32 ∷ []))) c.in_err-write_literal_ref.ensures.bytes)

pub returns-in_err-write_more-clause-bytes : goal.returns-in_err-write_more-clause-bytes
returns-in_err-write_more-clause-bytes g c = let p = err_from_is_err_and c.from_residual-in_err-write_more.result c.from_residual-in_err-write_more.ensures.1 in rw p.1 (cut_after _ _ _ (literal_text (literal_of c.args.first)) ((flat_map comma_text (drop 1 c.args.rule.now.body)) ++ ((32 ∷ []))) c.in_ok-write_literal_ref.ensures.bytes (cut_first _ _ (flat_map comma_text (drop 1 c.args.rule.now.body)) ((32 ∷ [])) c.in_err-write_more.ensures.bytes))

pub returns-clause-bytes : goal.returns-clause-bytes
returns-clause-bytes g c = then_all _ _ _ _ (literal_text (literal_of c.args.first)) ((flat_map comma_text (drop 1 c.args.rule.now.body)) ++ ((32 ∷ []))) c.in_ok-write_literal_ref.ensures.bytes (then_all _ _ _ _ (flat_map comma_text (drop 1 c.args.rule.now.body)) ((32 ∷ [])) c.in_ok-write_more.ensures.bytes (c.write_all.ensures.bytes))
