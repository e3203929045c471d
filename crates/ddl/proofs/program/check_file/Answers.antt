use Rattle.std.proofs.Common.{string_bytes}
use Rattle.dl_replies.specs.Certified.{SaysOfCertificate}
use Rattle.dl_files.proofs.Loading.{holds_so}
use Rattle.ddl.proofs.program.check_file.Goals as goal

pub returns-clause-said : goal.returns-clause-said
returns-clause-said g c = λ told.
    holds_so (λ bytes. SaysOfCertificate c.args.theory.now bytes c.in_ok-reply.reply)
    ((g.H.House.state c.args.house.now).holds (string_bytes c.args.cert.now)) c.in_ok-whole.whole
    (c.in_ok-whole.ensures.told told) c.in_ok-whole.ensures.whole c.in_ok-reply.ensures.said
