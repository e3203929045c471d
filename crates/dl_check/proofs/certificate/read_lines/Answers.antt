use Rattle.std.proofs.Common.{subst, sym}
use Rattle.dl_theory.specs.declared.answer.Certificate.{Certificate}
use Rattle.dl_check.specs.Certificates.{IsOnlyCertificate}
use Rattle.std.proofs.lemmas.Result.{err_from_is_err_and}
use Rattle.dl_read.specs.Files.{lines_of}
use Rattle.dl_read.proofs.Files.{first_is}
use Rattle.dl_check.proofs.CertificateLines.{bad_first, bad_later, whole_certificate}
use Rattle.dl_check.proofs.certificate.read_lines.Goals as goal

pub returns-in-None : goal.returns-in-None
returns-in-None c =
    let f = first_is c.cut_line.result.1 (λ m. m.now) _ (lines_of c.args.bytes.now) c.cut_line.result.0.now c.cut_line.ensures in
    bad_first (lines_of c.args.bytes.now) c.cut_line.result.0.now f.0 f.1 c.in-None.ensures

pub returns-in_err-read_members-in-Some-more : goal.returns-in_err-read_members-in-Some-more
returns-in_err-read_members-in-Some-more c =
    let p = err_from_is_err_and c.from_residual.result c.from_residual.ensures.1 in
    let e = rw c.in-Some-more.is at c.cut_line.ensures in
    rw (p.1, p.2) (bad_later (lines_of c.args.bytes.now) c.cut_line.result.0.now (lines_of c.in-Some-more.rest.now) c.in-Some.heading _ e.0 c.in-Some.ensures
    c.in_err-read_members-in-Some-more.ensures.stopped)

pub returns-in_ok-read_members-in-Some-more : goal.returns-in_ok-read_members-in-Some-more
returns-in_ok-read_members-in-Some-more c =
    let e = rw c.in-Some-more.is at c.cut_line.ensures in
    subst (λ (cert : Certificate). IsOnlyCertificate (lines_of c.args.bytes.now) cert) (sym c.with_heading-in-Some-more.ensures)
    (whole_certificate (lines_of c.args.bytes.now) c.cut_line.result.0.now (lines_of c.in-Some-more.rest.now) c.in-Some.heading c.in_ok-read_members-in-Some-more.field-0 e.0 c.in-Some.ensures
    c.in_ok-read_members-in-Some-more.ensures.members)
