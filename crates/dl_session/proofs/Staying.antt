-- What stays so when the history goes on, and that no line that was answered is `quit`.
use Rattle.std.proofs.Common.{ℕ, List, [], ◌∷◌, Option, sym, subst, inl, inr, ◌∙◌, arith}
use Rattle.std.specs.Prelude.{All}
use Rattle.std.proofs.lemmas.List.Elements.{All-nil, All-cons, All-append}
use Rattle.dl_theory.specs.Lists.{TheoryLists}
use Rattle.dl_turn.specs.History.{StartsWith}
use Rattle.dl_calls.specs.declared.entry.Entry.{Entry}
use Rattle.dl_lines.specs.Lines.{whole_lines, all_lines}
use Rattle.dl_read.specs.Files.{without_cr}
use Rattle.dl_request.specs.declared.request.Asked.{Asked}
use Rattle.dl_request.specs.declared.request.Asked.TheVariants as asked
use Rattle.dl_request.proofs.Deciding.{one_thing}
use Rattle.dl_session.specs.declared.end.End.{End}
use Rattle.dl_session.specs.declared.end.End.TheVariants.{Done, ReadFault, WriteFault, Spent}
use Rattle.dl_session.specs.Ends.{IsEnd, IsQuit}
use Rattle.dl_session.specs.Replies.{IsReply, Replies, Answered}
use Rattle.dl_session.proofs.Serving.{replies_more, answered_more}

pub ends_more : (S U : List TheoryLists) → StartsWith U S → (entries : List Entry) (taken : List ℕ) (rest : Option (List ℕ)) (written : List ℕ) (end : End)
    → IsEnd S entries taken rest written end → IsEnd U entries taken rest written end
ends_more S U begins entries taken rest written Done (inl quits) =
    inl (record { lines = quits.lines; quit = quits.quit; first = quits.first; is_quit = quits.is_quit; answered = answered_more S U begins quits.lines entries written quits.answered })
ends_more S U begins entries taken rest written Done (inr (meets, answered)) = inr (meets, answered_more S U begins (all_lines taken) entries written answered)
ends_more S U begins entries taken rest written ReadFault answered = answered_more S U begins (whole_lines taken) entries written answered
ends_more S U begins entries taken rest written WriteFault cut = record {
  lines = cut.lines;
  line = cut.line;
  first = cut.first;
  before = cut.before;
  used = cut.used;
  order = cut.order;
  whole = cut.whole;
  answered = answered_more S U begins cut.lines cut.before cut.whole cut.answered;
  reply = cut.reply;
  replies = replies_more S U begins cut.before cut.line cut.used cut.reply cut.replies;
  front = cut.front;
  is_front = cut.is_front;
  bytes = cut.bytes;
}
ends_more S U begins entries taken rest written Spent (full, answered) = (full, answered_more S U begins (whole_lines taken) entries written answered)

quit_has_no_reply : (S : List TheoryLists) (before : List Entry) (line : List ℕ) (used : List Entry) (bytes : List ℕ) → Replies S before line used bytes → IsQuit line → ⊥
quit_has_no_reply S before line used bytes (inl long) quit = omega (arith, long.0, quit.0)
quit_has_no_reply S before line used bytes (inr (short, (x, asks, reply))) quit =
    let one = one_thing (without_cr line) in
    subst (λ (y : Asked). IsReply S before y used bytes) (one.1.1 x asks ∙ sym (one.1.1 asked.Quit quit.1)) reply

abbrev IsNotQuit : List ℕ → Type 0
IsNotQuit line = IsQuit line → ⊥

pub no_quit : (S : List TheoryLists) (lines : List (List ℕ)) (entries : List Entry) (bytes : List ℕ) → Answered S lines entries bytes → All IsNotQuit lines
no_quit S [] [] [] Answered.none = All-nil IsNotQuit
no_quit S lines entries bytes (Answered.more ls es bs line used reply answered replies) =
    All-append IsNotQuit ls (line ∷ []) (no_quit S ls es bs answered) (All-cons IsNotQuit line [] (quit_has_no_reply S es line used reply replies) (All-nil IsNotQuit))
