-- The reply on a certificate.
use Rattle.std.specs.Prelude.{ℕ, ◌<◌, ◌≤◌, List, length}
use Rattle.dl_theory.specs.Lists.{TheoryLists}
use Rattle.dl_files.specs.declared.refusal.Refusal.TheVariants as refusal
use Rattle.dl_replies.specs.declared.reply.Reply.{Reply}
use Rattle.dl_replies.specs.declared.reply.Reply.TheVariants as reply
use Rattle.dl_files.specs.Theories.{limit}
use Rattle.dl_replies.specs.Checks.{IsOnlyChecked}

-- the bytes are too many, or this is said of them
abbrev pub SaysOfCertificate : TheoryLists → List ℕ → Reply → Type 0
SaysOfCertificate T bytes reply.Usage = ⊥
SaysOfCertificate T bytes (reply.Refused refusal.Size) = limit < length bytes
SaysOfCertificate T bytes (reply.Refused (refusal.Form line)) = ⊥
SaysOfCertificate T bytes (reply.Refused (refusal.Variables line)) = ⊥
SaysOfCertificate T bytes (reply.Refused (refusal.Edit line x)) = ⊥
SaysOfCertificate T bytes (reply.Conclusions f cs) = ⊥
SaysOfCertificate T bytes (reply.Text U) = ⊥
SaysOfCertificate T bytes (reply.Checked x) = (length bytes ≤ limit) × IsOnlyChecked T bytes x
SaysOfCertificate T bytes (reply.Generated s) = ⊥
