use Rattle.std.proofs.Common.{◌++◌}
use Rattle.std.specs.Option.{option_copied}
use Rattle.std.proofs.lemmas.Result.{err_from_is_err_and}
use Rattle.dl_print.specs.Text.{mode_text, sign_text}
use Rattle.dl_print.proofs.Writes.{cut_first, cut_after, then_all}
use Rattle.dl_print.proofs.write.write_literal_ref.Goals as goal

pub returns-in_err-write_mode-clause-bytes : goal.returns-in_err-write_mode-clause-bytes
returns-in_err-write_mode-clause-bytes g c = let p = err_from_is_err_and c.from_residual.result c.from_residual.ensures.1 in rw p.1 (cut_first _ _ (mode_text (option_copied c.args.literal.mode)) ((sign_text c.args.literal.positive) ++ (c.args.literal.atom.now)) c.in_err-write_mode.ensures.bytes)

pub returns-in_err-write_sign-clause-bytes : goal.returns-in_err-write_sign-clause-bytes
returns-in_err-write_sign-clause-bytes g c = let p = err_from_is_err_and c.from_residual-in_err-write_sign.result c.from_residual-in_err-write_sign.ensures.1 in rw p.1 (cut_after _ _ _ (mode_text (option_copied c.args.literal.mode)) ((sign_text c.args.literal.positive) ++ (c.args.literal.atom.now)) c.in_ok-write_mode.ensures.bytes (cut_first _ _ (sign_text c.args.literal.positive) (c.args.literal.atom.now) c.in_err-write_sign.ensures.bytes))

pub returns-clause-bytes : goal.returns-clause-bytes
returns-clause-bytes g c = then_all _ _ _ _ (mode_text (option_copied c.args.literal.mode)) ((sign_text c.args.literal.positive) ++ (c.args.literal.atom.now)) c.in_ok-write_mode.ensures.bytes (then_all _ _ _ _ (sign_text c.args.literal.positive) (c.args.literal.atom.now) c.in_ok-write_sign.ensures.bytes (c.write_name.ensures.bytes))
