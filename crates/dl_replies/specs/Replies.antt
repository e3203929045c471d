-- What the program says, and how it ends then.
use Rattle.std.specs.Prelude.{ℕ, List, codes}
use Rattle.dl_print.specs.Text.{theory_text}
use Rattle.dl_summary.specs.Summary.{summary_text}
use Rattle.dl_files.specs.declared.status.Status.{Status}
use Rattle.dl_files.specs.declared.status.Status.TheVariants as status
use Rattle.dl_replies.specs.declared.reply.Reply.{Reply}
use Rattle.dl_replies.specs.declared.reply.Reply.TheVariants as reply
use Rattle.dl_replies.specs.declared.checked.Checked.TheVariants as checked
use Rattle.dl_files.specs.Theories.{refused_line}
use Rattle.dl_replies.specs.Checks.{checked_line}
use Rattle.dl_conclusions.specs.Text.{conclusions_text}

abbrev pub usage_line : List ℕ
usage_line = codes "usage: ddl conclude F FILE, print FILE, check THEORY CERT, gen N SIZE, serve THEORY NAME [NAME ...]\n"

abbrev pub reply_status : Reply → Status
reply_status reply.Usage = status.Usage
reply_status (reply.Refused x) = status.Refused
reply_status (reply.Conclusions f cs) = status.Done
reply_status (reply.Text T) = status.Done
reply_status (reply.Checked checked.Accepted) = status.Done
reply_status (reply.Checked (checked.Rejected line)) = status.Rejected
reply_status (reply.Generated s) = status.Done

abbrev pub reply_text : Reply → List ℕ
reply_text reply.Usage = usage_line
reply_text (reply.Refused x) = refused_line x
reply_text (reply.Conclusions f cs) = conclusions_text f cs
reply_text (reply.Text T) = theory_text T
reply_text (reply.Checked x) = checked_line x
reply_text (reply.Generated s) = summary_text s
