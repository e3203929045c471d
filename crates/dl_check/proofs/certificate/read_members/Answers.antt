use Rattle.std.proofs.Common.{◌+◌, List, arith, subst, sym}
use Rattle.std.specs.List.{AllZip}
use Rattle.std.proofs.lemmas.Result.{err_from_is_err_and}
use Rattle.dl_lit.specs.declared.literal.Tagged.{Tagged}
use Rattle.dl_read.specs.Files.{lines_of}
use Rattle.dl_read.proofs.Files.{first_is}
use Rattle.dl_check.specs.Certificates.{IsOnlyMember}
use Rattle.dl_check.proofs.CertificateLines.{IsReadTo, read_more, read_end, read_stop}
use Rattle.dl_check.proofs.certificate.read_members.Goals as goal

pub returns-in_err-member-clause-stopped : goal.returns-in_err-member-clause-stopped
returns-in_err-member-clause-stopped c =
    let p = err_from_is_err_and c.from_residual.result c.from_residual.ensures.1 in
    let f = first_is c.cut_line.result.1 (λ m. m.now) _ (lines_of c.lines.rest.now) c.cut_line.result.0.now c.cut_line.ensures in
    rw (p.1, p.2) (read_stop (lines_of c.args.bytes.now) (lines_of c.lines.rest.now) f.0 c.lines.number c.lines.members c.cut_line.result.0.now _ c.lines.invariant.read f.1 c.in_err-member.ensures)

pub returns-in-None-clause-members : goal.returns-in-None-clause-members
returns-in-None-clause-members c =
    let e = rw c.in-None.is at c.cut_line.ensures in
    subst (λ (xs : List Tagged). AllZip IsOnlyMember (lines_of c.args.bytes.now) xs) (sym c.in_ok-push.ensures.ok)
    (read_end (lines_of c.args.bytes.now) (lines_of c.lines.rest.now) c.lines.number c.lines.members c.cut_line.result.0.now c.in_ok-member.member c.lines.invariant.read e c.in_ok-member.ensures)

pub lines-preserved : goal.lines-preserved
lines-preserved c =
    let e = rw c.in-Some.is at c.cut_line.ensures in
    record {
      read = subst (λ (xs : List Tagged). IsReadTo (lines_of c.args.bytes.now) (lines_of c.in-Some.after.now) (c.lines.number + 1) xs) (sym c.in_ok-push.ensures.ok)
          (read_more (lines_of c.args.bytes.now) (lines_of c.lines.rest.now) (lines_of c.in-Some.after.now) c.lines.number c.lines.members c.cut_line.result.0.now c.in_ok-member.member c.lines.invariant.read e.0 c.in_ok-member.ensures);
      room = omega (arith, e.1);
    }
