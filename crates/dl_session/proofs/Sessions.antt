-- A session so far, one line more, and its ends.
use Rattle.std.proofs.Common.{◌≡◌, ℕ, ◌<◌, List, [], ◌∷◌, ◌++◌, Some, None, Option, refl, sym, ap, subst, inl, inr, ◌∙◌, append-nil}
use Rattle.std.specs.Io.KnownBytes.{prepend_known, append_known}
use Rattle.dl_io.specs.Streams.{IsFront}
use Rattle.dl_io.proofs.Known.{append_known-twice}
use Rattle.dl_calls.specs.declared.entry.Entry.{Entry}
use Rattle.dl_edition.specs.Editions.{EditionLists}
use Rattle.dl_edition.specs.Offices.{SeatLists}
use Rattle.dl_lines.specs.Lines.{whole_lines, all_lines}
use Rattle.dl_lines.specs.Reading.{Reading, unread, Serves, MayEnd, IsAtLine, IsAnswer, IsNext, Account}
use Rattle.dl_lines.specs.declared.next.Ending.{Ending}
use Rattle.dl_lines.specs.declared.next.Ending.TheVariants as ending
use Rattle.dl_lines.specs.declared.next.Next.{Next}
use Rattle.dl_lines.specs.declared.next.Next.TheVariants.{Line, Long, Over}
use Rattle.dl_lines.specs.declared.reader.TheConstants.{MOST_BYTES}
use Rattle.dl_lines.proofs.Accounts.{begins, goes_on, come_first}
use Rattle.dl_lines.proofs.Calls.{told_more, prepend_known-none}
use Rattle.dl_session.specs.declared.end.End.TheVariants.{Done, WriteFault}
use Rattle.dl_session.specs.Answering.{Answers}
use Rattle.dl_session.specs.Ends.{AreFirstLines, IsQuit, IsEnd, IsSession}
use Rattle.dl_session.specs.Replies.{Replies, Answered}
use Rattle.dl_session.specs.Seats.{editions_of, Advances}
use Rattle.dl_session.specs.Serving.{end_of}
use Rattle.dl_session.specs.Table.{Keeps}
use Rattle.dl_session.proofs.Held.{keeps_none}
use Rattle.dl_session.proofs.Seats.{stays_put, advances_on}
use Rattle.dl_session.proofs.Serving.{answered_more, append_nothing}

-- what a session has done so far
pub record SoFar (source source_now sink sink_now : Option (List ℕ)) (seat seat_now : SeatLists) (reading : Reading) (l : List EditionLists) : Type 0 where
  pub taken : List ℕ
  pub written : List ℕ
  pub entries : List Entry
  pub lines : List (List ℕ)
  pub took : source ≡ prepend_known taken source_now
  pub wrote : sink_now ≡ append_known sink written
  pub advances : Advances seat seat_now entries
  pub account : Account taken source_now lines reading
  pub answered : Answered (editions_of seat_now) lines entries written
  pub keeps : Keeps seat_now entries l
  -- the lines have not ended, unless the last of them ended the input
  pub at_line : IsAtLine reading.ended

-- nothing
pub so_far_none : (source sink : Option (List ℕ)) (v : SeatLists) (reading : Reading) (l : List EditionLists) → v.out ≡ None → reading ≡ unread → l ≡ [] → SoFar source source sink sink v v reading l
so_far_none source sink v reading l within new empty = record {
  taken = [];
  written = [];
  entries = [];
  lines = [];
  took = prepend_known-none source;
  wrote = append_nothing sink;
  advances = stays_put v within;
  account = subst (λ (r : Reading). Account [] source [] r) (sym new) (begins source);
  answered = Answered.none;
  keeps = subst (λ (t : List EditionLists). Keeps v [] t) (sym empty) (keeps_none v);
  at_line = subst (λ (r : Reading). IsAtLine r.ended) (sym new) tt;
}

-- a line is the last one only at the end of the input
line_ends : (lines : List (List ℕ)) (line : List ℕ) (new : Reading) (answer : Next) → lines ≡ line ∷ [] → IsAnswer lines new answer → IsAtLine new.ended
line_ends lines line new Line one is = is.2
line_ends lines line new Long one is = is.3
line_ends lines line new (Over how) one is = absurd (cc (one, is.0))

-- the lines that were answered before are answered in the longer history
answered_on : (a b : SeatLists) (used entries : List Entry) (lines : List (List ℕ)) (bytes : List ℕ) → Advances a b used → Answered (editions_of a) lines entries bytes → Answered (editions_of b) lines entries bytes
answered_on a b used entries lines bytes advances answered = answered_more (editions_of a) (editions_of b) advances.editions lines entries bytes answered

module _ (source source_now source_new sink sink_now : Option (List ℕ)) (seat seat_now : SeatLists) (old new : Reading) (answer : Next) (l : List EditionLists)
    (so : SoFar source source_now sink sink_now seat seat_now old l) (going : old.ended ≡ None) (next : IsNext source_now source_new old new answer) where
  took_on : source ≡ prepend_known (so.taken ++ next.piece) source_new
  took_on = told_more source source_now source_new so.taken next.piece so.took next.told

  account_on : (line : List ℕ) → next.lines ≡ line ∷ [] → Account (so.taken ++ next.piece) source_new (so.lines ++ line ∷ []) new
  account_on line one = subst (λ (ls : List (List ℕ)). Account (so.taken ++ next.piece) source_new (so.lines ++ ls) new) one (goes_on source_now source_new old new answer so.taken so.lines so.account going next)

  -- a line was answered
  pub so_far_more : (line : List ℕ) (seat_new : SeatLists) (more : List EditionLists) (bytes : List ℕ) (sink_new : Option (List ℕ)) → next.lines ≡ line ∷ []
      → Answers (λ S used reply. Replies S so.entries line used reply) seat_now seat_new so.entries more bytes → sink_new ≡ append_known sink_now bytes
      → SoFar source source_new sink sink_new seat seat_new new more
  so_far_more line seat_new more bytes sink_new one answers wrote = record {
    taken = so.taken ++ next.piece;
    written = so.written ++ bytes;
    entries = so.entries ++ answers.used;
    lines = so.lines ++ line ∷ [];
    took = took_on;
    wrote = wrote ∙ ap (λ (known : Option (List ℕ)). append_known known bytes) so.wrote ∙ append_known-twice sink so.written bytes;
    advances = advances_on seat seat_now seat_new so.entries answers.used so.advances answers.advances;
    account = account_on line one;
    answered = Answered.more so.lines so.entries so.written line answers.used bytes
        (answered_on seat_now seat_new answers.used so.entries so.lines so.written answers.advances so.answered) answers.right;
    keeps = answers.keeps;
    at_line = line_ends next.lines line new answer one next.answers;
  }

  -- the lines with one that was just read are the first of what was taken
  first_lines : (line : List ℕ) → next.lines ≡ line ∷ [] → AreFirstLines (so.taken ++ next.piece) source_new (so.lines ++ line ∷ [])
  first_lines line one = by_end new.ended refl (account_on line one)
    where
      at_line : IsAtLine new.ended
      at_line = line_ends next.lines line new answer one next.answers

      by_end : (ended : Option Ending) → new.ended ≡ ended → Account (so.taken ++ next.piece) source_new (so.lines ++ line ∷ []) new
          → AreFirstLines (so.taken ++ next.piece) source_new (so.lines ++ line ∷ [])
      by_end None still account =
          let taken : List ℕ = so.taken ++ next.piece in
          let first = come_first taken [] source_new (so.lines ++ line ∷ []) new account still in
          inl (whole_lines (new.ahead ++ []), subst (λ (bytes : List ℕ). whole_lines bytes ≡ (so.lines ++ line ∷ []) ++ whole_lines (new.ahead ++ [])) (append-nil taken) first.1)
      by_end (Some ending.End) at account =
          let taken : List ℕ = so.taken ++ next.piece in
          let serves : Serves taken (so.lines ++ line ∷ []) new.ahead (Some ending.End) = subst (λ (ended : Option Ending). Serves taken (so.lines ++ line ∷ []) new.ahead ended) at account.serves in
          let may : MayEnd source_new new.count (Some ending.End) = subst (λ (ended : Option Ending). MayEnd source_new new.count ended) at account.may_end in
          inr (sym serves, (may.0, subst (λ (n : ℕ). n < MOST_BYTES) account.count may.1))
      by_end (Some ending.Limit) at account = absurd (subst IsAtLine at at_line)
      by_end (Some ending.Fault) at account = absurd (subst IsAtLine at at_line)

  -- the session ends at `quit`
  pub ends_quit : (line : List ℕ) → next.lines ≡ line ∷ [] → IsQuit line → IsSession source source_new sink sink_now seat seat_now Done
  ends_quit line one quit = record {
    taken = so.taken ++ next.piece;
    written = so.written;
    entries = so.entries;
    took = took_on;
    within = (account_on line one).within;
    wrote = so.wrote;
    advances = so.advances;
    ends = inl (record { lines = so.lines; quit = line; first = first_lines line one; is_quit = quit; answered = so.answered });
  }

  -- a write or a flush failed
  pub ends_cut : (line : List ℕ) (seat_new : SeatLists) (more : List EditionLists) (bytes front : List ℕ) (sink_new : Option (List ℕ)) → next.lines ≡ line ∷ []
      → Answers (λ S used reply. Replies S so.entries line used reply) seat_now seat_new so.entries more bytes → IsFront front bytes → sink_new ≡ append_known sink_now front
      → IsSession source source_new sink sink_new seat seat_new WriteFault
  ends_cut line seat_new more bytes front sink_new one answers is_front wrote = record {
    taken = so.taken ++ next.piece;
    written = so.written ++ front;
    entries = so.entries ++ answers.used;
    took = took_on;
    within = (account_on line one).within;
    wrote = wrote ∙ ap (λ (known : Option (List ℕ)). append_known known front) so.wrote ∙ append_known-twice sink so.written front;
    advances = advances_on seat seat_now seat_new so.entries answers.used so.advances answers.advances;
    ends = record {
      lines = so.lines;
      line = line;
      first = first_lines line one;
      before = so.entries;
      used = answers.used;
      order = refl;
      whole = so.written;
      answered = answered_on seat_now seat_new answers.used so.entries so.lines so.written answers.advances so.answered;
      reply = bytes;
      replies = answers.right;
      front = front;
      is_front = is_front;
      bytes = refl;
    };
  }

-- what an account says of how the lines have ended
ends_by : (taken written : List ℕ) (rest : Option (List ℕ)) (v : SeatLists) (entries : List Entry) (lines : List (List ℕ)) (reading : Reading) (how : Ending)
    → Account taken rest lines reading → reading.ended ≡ Some how → Answered (editions_of v) lines entries written → IsEnd (editions_of v) entries taken rest written (end_of how)
ends_by taken written rest v entries lines reading how account ended answered =
    by how (subst (λ (e : Option Ending). Serves taken lines reading.ahead e) ended account.serves) (subst (λ (e : Option Ending). MayEnd rest reading.count e) ended account.may_end)
  where
    to : (ls : List (List ℕ)) → ls ≡ lines → Answered (editions_of v) ls entries written
    to ls same = subst (λ (xs : List (List ℕ)). Answered (editions_of v) xs entries written) (sym same) answered

    by : (how : Ending) → Serves taken lines reading.ahead (Some how) → MayEnd rest reading.count (Some how) → IsEnd (editions_of v) entries taken rest written (end_of how)
    by ending.End serves may = inr ((may.0, subst (λ (n : ℕ). n < MOST_BYTES) account.count may.1), to (all_lines taken) serves)
    by ending.Limit serves may = (sym account.count ∙ may, to (whole_lines taken) serves)
    by ending.Fault serves may = to (whole_lines taken) serves

-- The lines have ended, by this call ..
pub ends_now : (source source_now source_new sink sink_now : Option (List ℕ)) (seat seat_now : SeatLists) (old new : Reading) (how : Ending) (answer : Next) (l : List EditionLists)
    → SoFar source source_now sink sink_now seat seat_now old l → old.ended ≡ None → (next : IsNext source_now source_new old new answer) → next.lines ≡ [] → new.ended ≡ Some how
    → IsSession source source_new sink sink_now seat seat_now (end_of how)
ends_now source source_now source_new sink sink_now seat seat_now old new how answer l so going next none ended =
    let taken : List ℕ = so.taken ++ next.piece in
    let account : Account taken source_new so.lines new = subst (λ (ls : List (List ℕ)). Account taken source_new ls new) (ap (λ (ls : List (List ℕ)). so.lines ++ ls) none ∙ append-nil so.lines)
    (goes_on source_now source_new old new answer so.taken so.lines so.account going next) in
    record {
      taken = taken;
      written = so.written;
      entries = so.entries;
      took = told_more source source_now source_new so.taken next.piece so.took next.told;
      within = account.within;
      wrote = so.wrote;
      advances = so.advances;
      ends = ends_by taken so.written source_new seat_now so.entries so.lines new how account ended so.answered;
    }

-- .. or by one before.
pub ends_before : (source source_now sink sink_now : Option (List ℕ)) (seat seat_now : SeatLists) (reading : Reading) (how : Ending) (l : List EditionLists)
    → SoFar source source_now sink sink_now seat seat_now reading l → reading.ended ≡ Some how → IsSession source source_now sink sink_now seat seat_now (end_of how)
ends_before source source_now sink sink_now seat seat_now reading how l so ended = record {
  taken = so.taken;
  written = so.written;
  entries = so.entries;
  took = so.took;
  within = so.account.within;
  wrote = so.wrote;
  advances = so.advances;
  ends = ends_by so.taken so.written source_now seat_now so.entries so.lines reading how so.account ended so.answered;
}
