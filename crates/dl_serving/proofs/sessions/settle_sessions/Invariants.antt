use Rattle.std.proofs.Common.{◌≡◌, ◌≤◌, length, map, vec_len}
use Rattle.dl_sessions.specs.Served.{told}
use Rattle.dl_journal.specs.Streams.{names_of, settled_all, AreOpen}
use Rattle.dl_serving.proofs.sessions.settle_sessions.Given as goal

abbrev pub invariant-loop-session : goal.invariant-loop-session
invariant-loop-session g l =
    let t = told g.H.In.Source.rest g.H.In.Source.faults g.H.In.Source.name g.H.Out.Sink.written g.H.Out.Sink.handed g.H.Out.Sink.faults g.H.Out.Sink.name in
    record {
      within : vec_len l.sessions ≤ length l.names;
      opened : AreOpen (g.H.House.state l.house) (names_of l.names) (map (λ s. t s.source s.sink) l.sessions.items);
      left : settled_all (g.H.House.state l.house) (names_of l.names) (map (λ s. t s.source s.sink) l.sessions.items)
          ≡ settled_all (g.H.House.state l.fn.house) (names_of l.names) (map (λ s. t s.source s.sink) l.fn.sessions.items);
    }

abbrev pub decreases-loop-session : goal.decreases-loop-session
decreases-loop-session g l = goal.left-loop-session g l
