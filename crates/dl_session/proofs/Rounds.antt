-- One round of the loop of a session: the next line is read and served.
use Rattle.std.proofs.Common.{◌≡◌, ℕ, ◌<◌, ◌≤◌, List, [], ◌∷◌, length, Some, None, Option, refl, sym, ap, subst, inl, inr}
use Rattle.std.specs.Prelude.{◌⊎◌, IfSome}
use Rattle.dl_edition.specs.Editions.{EditionLists}
use Rattle.dl_edition.specs.Offices.{SeatLists}
use Rattle.dl_lines.specs.Laws.{calls_left}
use Rattle.dl_lines.specs.Reading.{Reading, IsAtLine, IsAnswer, IsNext, IsOver, HasFault}
use Rattle.dl_lines.specs.declared.next.Ending.{Ending}
use Rattle.dl_lines.specs.declared.next.Ending.TheVariants as ending
use Rattle.dl_lines.specs.declared.next.Next.{Next}
use Rattle.dl_lines.specs.declared.next.Next.TheVariants.{Line, Long, Over}
use Rattle.dl_lines.specs.declared.reader.TheConstants.{LONGEST_LINE}
use Rattle.dl_lines.proofs.Accounts.{run_out}
use Rattle.dl_session.specs.declared.end.End.{End}
use Rattle.dl_session.specs.declared.end.End.TheVariants.{Done, ReadFault, WriteFault, Spent}
use Rattle.dl_session.specs.Ends.{HasCause, IsSession}
use Rattle.dl_session.specs.Serving.{end_of, HasLineCause, ServesLine, ServesNext}
use Rattle.dl_session.proofs.Sessions.{SoFar, so_far_more, ends_quit, ends_cut, ends_now, ends_before}

-- the counts before this round are those at the start
pub cause_from : (read_first read read_new write_first write write_new : ℕ) (end : End) → read ≡ read_first → write ≡ write_first → HasCause read read_new write write_new end
    → HasCause read_first read_new write_first write_new end
cause_from read_first read read_new write_first write write_new end same_read same_write h =
    subst (λ (n : ℕ). HasCause n read_new write_first write_new end) same_read (subst (λ (n : ℕ). HasCause read read_new n write_new end) same_write h)

-- The source, as its reader sees it. The lines may have ended by an earlier call.
module _ {S : Type 0} (rest : S → Option (List ℕ)) (read_faults : S → ℕ) (first : Option (List ℕ)) (s s_new : S) (sink_first sink sink_new : Option (List ℕ)) (faults faults_new : ℕ)
    (seat_first seat seat_new : SeatLists) (old new : Reading) (answer : Next) (l more : List EditionLists)
    (so : SoFar first (rest s) sink_first sink seat_first seat old l)
    (by_next : old.ended ≡ None → IsNext (rest s) (rest s_new) old new answer)
    (by_fault : old.ended ≡ None → HasFault (read_faults s) (read_faults s_new) answer)
    (by_over : IfSome old.ended (λ how. IsOver s s_new old new how answer)) where
  -- what the lines' reader did
  abbrev Reads : Type 0
  Reads =
      ((old.ended ≡ None) × IsNext (rest s) (rest s_new) old new answer × HasFault (read_faults s) (read_faults s_new) answer)
      ⊎ ((how : Ending) × (old.ended ≡ Some how) × IsOver s s_new old new how answer)

  reads : Reads
  reads = by old.ended refl
    where
      by : (ended : Option Ending) → old.ended ≡ ended → Reads
      by None e = inl (e, by_next e, by_fault e)
      by (Some how) e = inr (how, e, subst (λ (ended : Option Ending). IfSome ended (λ h. IsOver s s_new old new h answer)) e by_over)

  -- a line that was read is short
  pub short_line : answer ≡ Line → length new.line ≤ LONGEST_LINE
  short_line is = by reads
    where
      by : Reads → length new.line ≤ LONGEST_LINE
      by (inl (e, next, fault)) = (subst (λ (a : Next). IsAnswer next.lines new a) is next.answers).1
      by (inr (how, e, over)) = absurd (cc (is, over.answers))

  abbrev Serves : Option End → Type 0
  Serves result = ServesNext seat seat_new so.entries more new.line answer sink sink_new faults faults_new result

  -- the session goes on
  pub goes_on : Serves None → SoFar first (rest s_new) sink_first sink_new seat_first seat_new new more
  goes_on serves = by reads
    where
      by_answer : (a : Next) → answer ≡ a → (next : IsNext (rest s) (rest s_new) old new answer) → old.ended ≡ None → IsAnswer next.lines new a
          → ServesNext seat seat_new so.entries more new.line a sink sink_new faults faults_new None → SoFar first (rest s_new) sink_first sink_new seat_first seat_new new more
      by_answer Line e next going is (served, cause) =
          so_far_more first (rest s) (rest s_new) sink_first sink seat_first seat old new answer l so going next new.line seat_new more served.0 sink_new is.0 served.1 served.2
      by_answer Long e next going is (served, cause) =
          let one = served is.0 is.2 in
          so_far_more first (rest s) (rest s_new) sink_first sink seat_first seat old new answer l so going next is.0 seat_new more one.0 sink_new is.1 one.1 one.2
      by_answer (Over how) e next going is (ended, same, kept, cause) = absurd (cc)

      by : Reads → SoFar first (rest s_new) sink_first sink_new seat_first seat_new new more
      by (inl (e, next, fault)) = by_answer answer refl next e next.answers serves
      by (inr (how, e, over)) =
          let h = subst (λ (a : Next). ServesNext seat seat_new so.entries more new.line a sink sink_new faults faults_new None) over.answers serves in absurd (cc (h.0))

  -- fewer calls are left
  pub fewer_left : Serves None → calls_left new < calls_left old
  fewer_left serves = by reads
    where
      by : Reads → calls_left new < calls_left old
      by (inl (e, next, fault)) = run_out (rest s) (rest s_new) old new answer e next
      by (inr (how, e, over)) =
          let h = subst (λ (a : Next). ServesNext seat seat_new so.entries more new.line a sink sink_new faults faults_new None) over.answers serves in absurd (cc (h.0))

  -- no count rose
  pub quiet : Serves None → (read_faults s_new ≡ read_faults s) × (faults_new ≡ faults)
  quiet serves = by reads
    where
      by_answer : (a : Next) → HasFault (read_faults s) (read_faults s_new) a → ServesNext seat seat_new so.entries more new.line a sink sink_new faults faults_new None
          → (read_faults s_new ≡ read_faults s) × (faults_new ≡ faults)
      by_answer Line fault (served, counted) = (fault, counted)
      by_answer Long fault (served, counted) = (fault, counted)
      by_answer (Over how) fault (ended, same, kept, counted) = absurd (cc)

      by : Reads → (read_faults s_new ≡ read_faults s) × (faults_new ≡ faults)
      by (inl (e, next, fault)) = by_answer answer fault serves
      by (inr (how, e, over)) =
          let h = subst (λ (a : Next). ServesNext seat seat_new so.entries more new.line a sink sink_new faults faults_new None) over.answers serves in absurd (cc (h.0))

  abbrev Ended : End → Type 0
  Ended end = IsSession first (rest s_new) sink_first sink_new seat_first seat_new end

  ended_at : (end : End) → seat_new ≡ seat → sink_new ≡ sink → IsSession first (rest s_new) sink_first sink seat_first seat end → Ended end
  ended_at end same kept session =
      subst (λ (v : SeatLists). IsSession first (rest s_new) sink_first sink_new seat_first v end) (sym same)
      (subst (λ (w : Option (List ℕ)). IsSession first (rest s_new) sink_first w seat_first seat end) (sym kept) session)

  -- the session ends
  pub ends : (end : End) → Serves (Some end) → Ended end
  ends end serves = by reads
    where
      by_line : (line : List ℕ) (end : End) (next : IsNext (rest s) (rest s_new) old new answer) → old.ended ≡ None → next.lines ≡ line ∷ []
          → ServesLine seat seat_new so.entries more line sink sink_new (Some end) → Ended end
      by_line line Done next going one (quit, same, kept) =
          ended_at Done same kept (ends_quit first (rest s) (rest s_new) sink_first sink seat_first seat old new answer l so going next line one quit)
      by_line line ReadFault next going one never = absurd never
      by_line line WriteFault next going one (bytes, front, answers, is_front, wrote) =
          ends_cut first (rest s) (rest s_new) sink_first sink seat_first seat old new answer l so going next line seat_new more bytes front sink_new one answers is_front wrote
      by_line line Spent next going one never = absurd never

      by_answer : (a : Next) → (next : IsNext (rest s) (rest s_new) old new answer) → old.ended ≡ None → IsAnswer next.lines new a
          → ServesNext seat seat_new so.entries more new.line a sink sink_new faults faults_new (Some end) → Ended end
      by_answer Line next going is (served, cause) = by_line new.line end next going is.0 served
      by_answer Long next going is (served, cause) = by_line is.0 end next going is.1 (served is.0 is.2)
      by_answer (Over how) next going is (at, same, kept, cause) =
          subst Ended (let e : end_of how ≡ end = cc in e)
          (ended_at (end_of how) same kept (ends_now first (rest s) (rest s_new) sink_first sink seat_first seat old new how answer l so going next is.0 is.1))

      by : Reads → Ended end
      by (inl (e, next, fault)) = by_answer answer next e next.answers serves
      by (inr (how, e, over)) =
          let h = subst (λ (a : Next). ServesNext seat seat_new so.entries more new.line a sink sink_new faults faults_new (Some end)) over.answers serves in
          let told : rest s_new ≡ rest s = ap rest over.source in
          let there : IsSession first (rest s) sink_first sink seat_first seat (end_of how) = ends_before first (rest s) sink_first sink seat_first seat old how l so e in
          subst Ended (let same : end_of how ≡ end = cc (h.0) in same)
          (ended_at (end_of how) h.1 h.2 (subst (λ (r : Option (List ℕ)). IsSession first r sink_first sink seat_first seat (end_of how)) (sym told) there))

  by_ending : (how : Ending) (end : End) → Some end ≡ Some (end_of how) → faults_new ≡ faults → HasFault (read_faults s) (read_faults s_new) (Over how) → HasCause (read_faults s) (read_faults s_new) faults faults_new end
  by_ending ending.End end at kept fault = subst (λ (e : End). HasCause (read_faults s) (read_faults s_new) faults faults_new e) (let same : Done ≡ end = cc in same) (fault, kept)
  by_ending ending.Limit end at kept fault = subst (λ (e : End). HasCause (read_faults s) (read_faults s_new) faults faults_new e) (let same : Spent ≡ end = cc in same) (fault, kept)
  by_ending ending.Fault end at kept fault = subst (λ (e : End). HasCause (read_faults s) (read_faults s_new) faults faults_new e) (let same : ReadFault ≡ end = cc in same) (fault, kept)

  by_line_cause : (line : List ℕ) (end : End) → read_faults s_new ≡ read_faults s → ServesLine seat seat_new so.entries more line sink sink_new (Some end) → HasLineCause faults faults_new (Some end)
      → HasCause (read_faults s) (read_faults s_new) faults faults_new end
  by_line_cause line Done read served cause = (read, cause)
  by_line_cause line ReadFault read served cause = absurd served
  by_line_cause line WriteFault read served cause = (read, cause)
  by_line_cause line Spent read served cause = absurd served

  -- a count rose only by an end of its own
  pub cause : (end : End) → Serves (Some end) → HasCause (read_faults s) (read_faults s_new) faults faults_new end
  cause end serves = by reads
    where
      by_answer : (a : Next) → (next : IsNext (rest s) (rest s_new) old new answer) → IsAnswer next.lines new a → HasFault (read_faults s) (read_faults s_new) a
          → ServesNext seat seat_new so.entries more new.line a sink sink_new faults faults_new (Some end) → HasCause (read_faults s) (read_faults s_new) faults faults_new end
      by_answer Line next is fault (served, counted) = by_line_cause new.line end fault served counted
      by_answer Long next is fault (served, counted) = by_line_cause is.0 end fault (served is.0 is.2) counted
      by_answer (Over how) next is fault (at, same, kept, counted) = by_ending how end at counted fault

      before : (how : Ending) → IsAtLine (Some how) → IsOver s s_new old new how answer → HasCause (read_faults s) (read_faults s_new) faults faults_new end
      before ending.Limit at_line over = absurd at_line
      before ending.Fault at_line over = absurd at_line
      before ending.End at_line over =
          let h = subst (λ (a : Next). ServesNext seat seat_new so.entries more new.line a sink sink_new faults faults_new (Some end)) over.answers serves in
          by_ending ending.End end h.0 h.3 (ap read_faults over.source)

      by : Reads → HasCause (read_faults s) (read_faults s_new) faults faults_new end
      by (inl (e, next, fault)) = by_answer answer next next.answers fault serves
      by (inr (how, e, over)) = before how (subst IsAtLine e so.at_line) over
