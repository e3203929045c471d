use Rattle.dl_io.specs.House.{standard}
use Rattle.std.proofs.Common.{[], ◌∷◌, true, refl, sym, ap, arith}
use Rattle.dl_replies.specs.declared.checked.Checked.{Checked}
use Rattle.dl_replies.specs.declared.checked.Checked.TheVariants.{Accepted}
use Rattle.dl_replies.specs.declared.checked.Checked.TheVariants as checked
use Rattle.dl_replies.specs.declared.reply.Reply.TheVariants as reply
use Rattle.dl_files.specs.declared.status.Status.TheVariants.{Done, Refused, Rejected}
use Rattle.dl_replies.specs.Replies.{reply_status}
use Rattle.ddl.proofs.Exact.{ends_so, check_unserved, certificate_ends}
use Rattle.ddl.proofs.law.certificates_are_judged.Goals as goal

pub returns-clause-too_large : goal.returns-clause-too_large
returns-clause-too_large c = λ old new words ends T bytes answers asks large calm.
    ends_so old new words ends Refused calm (certificate_ends old words T bytes asks Refused (λ _. refl) (λ x small _. absurd (omega (arith, large, small))))
    (λ serves. absurd (check_unserved true old new words (standard ∷ []) ends asks.theory asks.cert asks.asks serves)) answers

pub returns-clause-accepts : goal.returns-clause-accepts
returns-clause-accepts c = λ old new words ends T bytes answers asks small accepted calm.
    ends_so old new words ends Done calm
    (certificate_ends old words T bytes asks Done (λ large. absurd (omega (arith, large, small)))
    (λ x _ only. ap (λ (y : Checked). reply_status (reply.Checked y)) (sym (only.1 Accepted accepted))))
    (λ serves. absurd (check_unserved true old new words (standard ∷ []) ends asks.theory asks.cert asks.asks serves)) answers

pub returns-clause-rejects : goal.returns-clause-rejects
returns-clause-rejects c = λ old new words ends T bytes line answers asks small rejected calm.
    ends_so old new words ends Rejected calm
    (certificate_ends old words T bytes asks Rejected (λ large. absurd (omega (arith, large, small)))
    (λ x _ only. ap (λ (y : Checked). reply_status (reply.Checked y)) (sym (only.1 (checked.Rejected line) rejected))))
    (λ serves. absurd (check_unserved true old new words (standard ∷ []) ends asks.theory asks.cert asks.asks serves)) answers
