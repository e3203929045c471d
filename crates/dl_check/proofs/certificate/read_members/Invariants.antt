use Rattle.std.proofs.Common.{◌+◌, ◌≤◌, length}
use Rattle.dl_read.specs.Files.{lines_of}
use Rattle.dl_check.proofs.CertificateLines.{IsReadTo}
use Rattle.dl_check.proofs.certificate.read_members.Given as goal

abbrev pub invariant-lines : goal.invariant-lines
invariant-lines l = record {
  read : IsReadTo (lines_of l.fn.bytes) (lines_of l.rest) l.number l.members;
  room : l.number + length l.rest ≤ length l.fn.bytes + 2;
}

abbrev pub decreases-lines : goal.decreases-lines
decreases-lines l = length l.rest
