-- What sessions at one board have done by the end of all of them.
use Rattle.std.specs.Prelude.{◌≡◌, ℕ, ◌+◌, ◌≤◌, List, [], ◌∷◌, length, Option}
use Rattle.std.specs.List.{range_with_len}
use Rattle.std.specs.Io.KnownBytes.{prepend_known, append_known}
use Rattle.dl_theory.specs.Lists.{TheoryLists}
use Rattle.dl_turn.specs.History.{AllBelow}
use Rattle.dl_calls.specs.declared.call.Call.TheVariants.{Enrol}
use Rattle.dl_calls.specs.declared.reply.Reply.TheVariants.{Enrolled}
use Rattle.dl_calls.specs.declared.entry.Entry.{Entry}
use Rattle.dl_calls.specs.Histories.{IsLegal, state_after, entries_of, enrolled_seats}
use Rattle.dl_lines.specs.declared.reader.TheConstants.{MOST_BYTES}
use Rattle.dl_session.specs.declared.end.End.{End}
use Rattle.dl_session.specs.Ends.{IsEnd, HasCause}

-- what a session's source and sink tell
pub record Told : Type 0 where
  pub rest : Option (List ℕ)
  pub read_faults : ℕ
  pub source_name : List ℕ
  pub written : Option (List ℕ)
  pub handed : Option (List ℕ)
  pub write_faults : ℕ
  pub sink_name : List ℕ

-- the same by the functions of a kind of source and of a kind of sink
module _ {I P : Type 0} (rest : I → Option (List ℕ)) (read_faults : I → ℕ) (source_name : I → List ℕ)
    (written handed : P → Option (List ℕ)) (write_faults : P → ℕ) (sink_name : P → List ℕ) where
  abbrev pub told : I → P → Told
  told source sink = record {
    rest = rest source;
    read_faults = read_faults source;
    source_name = source_name source;
    written = written sink;
    handed = handed sink;
    write_faults = write_faults sink;
    sink_name = sink_name sink;
  }

-- a seat's first entry
abbrev pub enrolment : ℕ → Entry
enrolment seat = record { seat = seat; call = Enrol; reply = Enrolled seat }

-- A session of a seat in the whole history: what it took of its source, what it wrote, the entries of its seat behind the enrolment,
-- and its end over these, by all editions. The two states of the sink are what was written before and after, or what was handed on.
pub record IsSessionIn (T : TheoryLists) (history : List Entry) (seat : ℕ) (source source_now sink sink_now : Option (List ℕ)) (end : End) : Type 0 where
  pub taken : List ℕ
  pub written : List ℕ
  pub entries : List Entry
  pub own : entries_of seat history ≡ enrolment seat ∷ entries
  pub took : source ≡ prepend_known taken source_now
  pub within : length taken ≤ MOST_BYTES
  pub wrote : sink_now ≡ append_known sink written
  pub ends : IsEnd (state_after T history).editions entries taken source_now written end

-- A session was served, by what was written. Where its sink held nothing back at first, it was so by what was handed on.
pub record IsServed (T : TheoryLists) (history : List Entry) (seat : ℕ) (old new : Told) (end : End) : Type 0 where
  pub session : IsSessionIn T history seat old.rest new.rest old.written new.written end
  pub handed : old.handed ≡ old.written → IsSessionIn T history seat old.rest new.rest old.handed new.handed end
  pub cause : HasCause old.read_faults new.read_faults old.write_faults new.write_faults end
  pub source_name : new.source_name ≡ old.source_name
  pub sink_name : new.sink_name ≡ old.sink_name

-- R holds at each place, of its number and of what both lists have there, and the lists are as long.
abbrev pub AllAt : {A B : Type 0} → (ℕ → A → B → Type 0) → ℕ → List A → List B → Type 0
AllAt R k [] [] = Unit {0}
AllAt R k [] (y ∷ ys) = ⊥
AllAt R k (x ∷ xs) [] = ⊥
AllAt R k (x ∷ xs) (y ∷ ys) = R k x y × AllAt R (k + 1) xs ys

-- By what streams tell before and after, and by ends: sessions with these streams, at the seats from 0 on in the order of the streams,
-- have made this history, from this theory.
pub record AreServed {A B : Type 0} (before : A → Told) (after : B → Told) (end : B → End)
    (T : TheoryLists) (streams : List A) (history : List Entry) (sessions : List B) : Type 0 where
  pub legal : IsLegal T history
  pub enrolled : enrolled_seats history ≡ range_with_len 0 (length sessions)
  pub below : AllBelow (λ e. e.seat) (length sessions) history
  pub each : AllAt (λ seat s session. IsServed T history seat (before s) (after session) (end session)) 0 streams sessions
