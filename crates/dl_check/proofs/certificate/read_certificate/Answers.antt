use Rattle.std.proofs.Common.{List, ℕ, subst}
use Rattle.std.specs.Prelude.{MatchResult}
use Rattle.dl_read.specs.Files.{lines_of}
use Rattle.dl_check.specs.Certificates.{IsOnlyCertificate, IsCertStop}
use Rattle.dl_check.proofs.CertificateLines.{answer_reads, answer_stops}
use Rattle.dl_check.proofs.certificate.read_certificate.Goals as goal

pub returns-clause-reads : goal.returns-clause-reads
returns-clause-reads c = answer_reads _ c.read_lines.result
    (subst (λ (bytes : List ℕ). MatchResult c.read_lines.result (IsOnlyCertificate (lines_of bytes)) (IsCertStop (lines_of bytes))) c.without_last_lf.ensures c.read_lines.ensures)

pub returns-clause-stops : goal.returns-clause-stops
returns-clause-stops c = answer_stops _ c.read_lines.result
    (subst (λ (bytes : List ℕ). MatchResult c.read_lines.result (IsOnlyCertificate (lines_of bytes)) (IsCertStop (lines_of bytes))) c.without_last_lf.ensures c.read_lines.ensures)
