use Rattle.std.proofs.Common.{◌≡◌, ◌≤◌, length, map, vec_len}
use Rattle.dl_sessions.specs.Served.{told}
use Rattle.dl_journal.specs.Streams.{names_of, settled_all, AreOpen}
use Rattle.dl_journal.proofs.streams.settle_streams.Given as goal

abbrev pub invariant-loop-source : goal.invariant-loop-source
invariant-loop-source g l =
    let t = told g.H.In.Source.rest g.H.In.Source.faults g.H.In.Source.name g.H.Out.Sink.written g.H.Out.Sink.handed g.H.Out.Sink.faults g.H.Out.Sink.name in
    record {
      within : vec_len l.streams ≤ length l.names;
      opened : AreOpen (g.H.House.state l.house) (names_of l.names) (map (λ s. t s.0 s.1) l.streams.items);
      left : settled_all (g.H.House.state l.house) (names_of l.names) (map (λ s. t s.0 s.1) l.streams.items)
          ≡ settled_all (g.H.House.state l.fn.house) (names_of l.names) (map (λ s. t s.0 s.1) l.fn.streams.items);
    }

abbrev pub decreases-loop-source : goal.decreases-loop-source
decreases-loop-source g l = goal.left-loop-source g l
