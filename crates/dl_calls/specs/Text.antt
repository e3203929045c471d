-- The line of a journal for each entry.
use Rattle.std.specs.Prelude.{ℕ, List, [], ◌∷◌, ◌++◌, codes, decimal}
use Rattle.std.specs.List.{flat_map}
use Rattle.dl_theory.specs.declared.edit.EditRefusal.{EditRefusal}
use Rattle.dl_print.specs.Text.{edit_text, refusal_text}
use Rattle.dl_calls.specs.declared.call.Call.{Call}
use Rattle.dl_calls.specs.declared.call.Call.TheVariants.{Enrol, Edit, Publish, Hold}
use Rattle.dl_calls.specs.declared.reply.Reply.{Reply}
use Rattle.dl_calls.specs.declared.reply.Reply.TheVariants.{Enrolled, Edited, EditRefused, Edition, Holding, Unpublished}
use Rattle.dl_calls.specs.declared.entry.Entry.{Entry}

abbrev pub call_text : Call → List ℕ
call_text Enrol = codes "enrol"
call_text (Edit e) = edit_text e
call_text Publish = codes "publish"
call_text (Hold n) = codes "hold " ++ decimal n

abbrev pub refused_text : EditRefusal → List ℕ
refused_text x = codes "refused " ++ refusal_text x

-- which edition was asked for, and how many there are
abbrev pub unpublished_text : ℕ → ℕ → List ℕ
unpublished_text asked published = (codes "refused unpublished " ++ decimal asked) ++ (codes " of " ++ decimal published)

abbrev pub reply_text : Reply → List ℕ
reply_text (Enrolled n) = codes "enrolled " ++ decimal n
reply_text Edited = codes "ok"
reply_text (EditRefused x) = refused_text x
reply_text (Edition n) = codes "edition " ++ decimal n
reply_text (Holding n) = codes "holding " ++ decimal n
reply_text (Unpublished asked published) = unpublished_text asked published

-- the seat, the call and the reply with ` | ` between them, and an LF
abbrev pub entry_text : Entry → List ℕ
entry_text e = (decimal e.seat ++ (codes " | " ++ call_text e.call)) ++ (codes " | " ++ (reply_text e.reply ++ 10 ∷ []))

-- the lines of a history, in order
abbrev pub journal_text : List Entry → List ℕ
journal_text history = flat_map entry_text history
