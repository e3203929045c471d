use Rattle.std.proofs.Common.{refl}
use Rattle.dl_check.proofs.CertificateLines.{outside_if_variables}
use Rattle.dl_check.proofs.certificate.line_member.Goals as goal

pub returns-in-Err-Bad : goal.returns-in-Err-Bad
returns-in-Err-Bad c = let e = rw c.in-Err-Bad.field-0-is at c.in-Err-Bad.ensures in (refl, λ m. e.1 m.0 m.1)

pub returns-in-Err-Variables : goal.returns-in-Err-Variables
returns-in-Err-Variables c = let e = rw c.in-Err-Variables.field-0-is at c.in-Err-Variables.ensures in (refl, outside_if_variables c.args.line.now e)
