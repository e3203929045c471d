-- What a program can hold: names are spelled as names, and numbers have 64 bits.
use Rattle.std.specs.Prelude.{ℕ, ◌^◌, ◌<◌, List, IsTrue, IfSome, All}
use Rattle.dl_lit.specs.Name.{is_name}
use Rattle.dl_lit.specs.declared.literal.Literal.{Literal}
use Rattle.dl_theory.specs.declared.rule.Rule.{Rule}
use Rattle.dl_theory.specs.declared.rule.Pair.{Pair}
use Rattle.dl_theory.specs.declared.edit.Edit as edit
use Rattle.dl_theory.specs.declared.edit.Edit.TheVariants.{AddRule, DropRule, AddFact, DropFact, AddPair, DropPair}
use Rattle.dl_theory.specs.declared.edit.EditRefusal.{EditRefusal}
use Rattle.dl_theory.specs.declared.edit.EditRefusal.TheVariants.{LabelThere, NoLabel, Cycle}
use Rattle.dl_calls.specs.declared.call.Call.{Call}
use Rattle.dl_calls.specs.declared.call.Call.TheVariants.{Enrol, Edit, Publish, Hold}
use Rattle.dl_calls.specs.declared.reply.Reply.{Reply}
use Rattle.dl_calls.specs.declared.reply.Reply.TheVariants.{Enrolled, Edited, EditRefused, Edition, Holding, Unpublished}
use Rattle.dl_calls.specs.declared.entry.Entry.{Entry}

abbrev pub IsName : List ℕ → Type 0
IsName bytes = IsTrue (is_name bytes)

abbrev pub IsCount : ℕ → Type 0
IsCount n = n < 2 ^ 64

pub record IsSpelledLiteral (q : Literal) : Type 0 where
  pub mode : IfSome q.mode IsName
  pub atom : IsName q.atom

pub record IsSpelledRule (r : Rule) : Type 0 where
  pub label : IsName r.label
  pub body : All IsSpelledLiteral r.body
  pub head : IsSpelledLiteral r.head

pub record IsSpelledPair (p : Pair) : Type 0 where
  pub upper : IsName p.upper
  pub lower : IsName p.lower

abbrev pub IsSpelledEdit : edit.Edit → Type 0
IsSpelledEdit (AddRule r) = IsSpelledRule r
IsSpelledEdit (DropRule label) = IsName label
IsSpelledEdit (AddFact q) = IsSpelledLiteral q
IsSpelledEdit (DropFact q) = IsSpelledLiteral q
IsSpelledEdit (AddPair p) = IsSpelledPair p
IsSpelledEdit (DropPair p) = IsSpelledPair p

abbrev pub IsSpelledRefusal : EditRefusal → Type 0
IsSpelledRefusal (LabelThere label) = IsName label
IsSpelledRefusal (NoLabel label) = IsName label
IsSpelledRefusal (Cycle path) = All IsName path
IsSpelledRefusal _ = Unit {0}

abbrev pub IsSpelledCall : Call → Type 0
IsSpelledCall Enrol = Unit {0}
IsSpelledCall (Edit e) = IsSpelledEdit e
IsSpelledCall Publish = Unit {0}
IsSpelledCall (Hold n) = IsCount n

abbrev pub IsSpelledReply : Reply → Type 0
IsSpelledReply (Enrolled n) = IsCount n
IsSpelledReply Edited = Unit {0}
IsSpelledReply (EditRefused x) = IsSpelledRefusal x
IsSpelledReply (Edition n) = IsCount n
IsSpelledReply (Holding n) = IsCount n
IsSpelledReply (Unpublished asked published) = IsCount asked × IsCount published

pub record IsSpelled (e : Entry) : Type 0 where
  pub seat : IsCount e.seat
  pub call : IsSpelledCall e.call
  pub reply : IsSpelledReply e.reply
