use Rattle.std.proofs.Common.{◌≡◌, ◌≤◌, ◌-◌, length, map, take, vec_len, vec_capacity}
use Rattle.dl_sessions.specs.Served.{told}
use Rattle.dl_journal.specs.Streams.{names_of, opened_all, AreFresh}
use Rattle.dl_journal.proofs.streams.open_streams.Given as goal

abbrev pub invariant-loop-house : goal.invariant-loop-house
invariant-loop-house g l =
    let t = told g.H.In.Source.rest g.H.In.Source.faults g.H.In.Source.name g.H.Out.Sink.written g.H.Out.Sink.handed g.H.Out.Sink.faults g.H.Out.Sink.name in
    record {
      house : g.H.House.state l.house ≡ opened_all (g.H.House.state l.fn.house) (take (length l.room.items) (names_of l.names));
      fresh : AreFresh g.H.House.tells (g.H.House.state l.fn.house) (names_of l.names) (map (λ s. t s.0 s.1) l.room.items);
      within : vec_len l.room ≤ length l.names;
      room : length l.names ≤ vec_capacity l.room;
    }

abbrev pub decreases-loop-house : goal.decreases-loop-house
decreases-loop-house g l = length l.names - vec_len l.room
