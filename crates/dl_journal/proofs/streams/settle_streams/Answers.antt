use Rattle.std.proofs.Common.{◌∙◌, refl, sym, subst, ap, arith, map, string_bytes}
use Rattle.std.proofs.lemmas.List.{length-map}
use Rattle.dl_io.specs.House.{HouseState}
use Rattle.dl_sessions.specs.Served.{told}
use Rattle.dl_journal.specs.Streams.{names_of, settled_all, AreOpen}
use Rattle.dl_journal.proofs.Settled.{open_within, turn_open, turn_others, turn_left}
use Rattle.dl_journal.proofs.streams.settle_streams.Goals as goal

pub loop-source-init : goal.loop-source-init
loop-source-init g c =
    let t = told g.H.In.Source.rest g.H.In.Source.faults g.H.In.Source.name g.H.Out.Sink.written g.H.Out.Sink.handed g.H.Out.Sink.faults g.H.Out.Sink.name in
    let within = open_within (g.H.House.state c.args.house.now) (names_of c.args.names.now) (map (λ s. t s.0 s.1) c.args.streams.items) c.requires.«open» in
    record {
      within = omega (arith, within, length-map c.args.streams.items (λ s. t s.0 s.1), length-map c.args.names.now (λ named. string_bytes named.name));
      opened = c.requires.«open»;
      left = refl;
    }

pub settle_pair-requires-clause-input : goal.settle_pair-requires-clause-input
settle_pair-requires-clause-input g c κs within =
    let t = told g.H.In.Source.rest g.H.In.Source.faults g.H.In.Source.name g.H.Out.Sink.written g.H.Out.Sink.handed g.H.Out.Sink.faults g.H.Out.Sink.name in
    let is = turn_open (λ s. t s.0 s.1) (g.H.House.state c.loop-source.house) c.args.names.now c.loop-source.streams.items c.pop.new.self.items (c.in-Some.source, c.in-Some.sink)
    c.loop-source.invariant.opened c.in-Some.ensures.items c.len.result (c.len.ensures ∙ c.pop.new.self.ok.0) c.index-names-len.result c.index-names-len.is c.requires.distinct in
    is.input

pub settle_pair-requires-clause-output : goal.settle_pair-requires-clause-output
settle_pair-requires-clause-output g c κs within =
    let t = told g.H.In.Source.rest g.H.In.Source.faults g.H.In.Source.name g.H.Out.Sink.written g.H.Out.Sink.handed g.H.Out.Sink.faults g.H.Out.Sink.name in
    let is = turn_open (λ s. t s.0 s.1) (g.H.House.state c.loop-source.house) c.args.names.now c.loop-source.streams.items c.pop.new.self.items (c.in-Some.source, c.in-Some.sink)
    c.loop-source.invariant.opened c.in-Some.ensures.items c.len.result (c.len.ensures ∙ c.pop.new.self.ok.0) c.index-names-len.result c.index-names-len.is c.requires.distinct in
    ap (g.H.House.state c.loop-source.house).open_out c.index-names-len.result.behind ∙ is.output

pub settle_pair-requires-clause-source : goal.settle_pair-requires-clause-source
settle_pair-requires-clause-source g c κs within =
    let t = told g.H.In.Source.rest g.H.In.Source.faults g.H.In.Source.name g.H.Out.Sink.written g.H.Out.Sink.handed g.H.Out.Sink.faults g.H.Out.Sink.name in
    let is = turn_open (λ s. t s.0 s.1) (g.H.House.state c.loop-source.house) c.args.names.now c.loop-source.streams.items c.pop.new.self.items (c.in-Some.source, c.in-Some.sink)
    c.loop-source.invariant.opened c.in-Some.ensures.items c.len.result (c.len.ensures ∙ c.pop.new.self.ok.0) c.index-names-len.result c.index-names-len.is c.requires.distinct in
    is.source_name

pub settle_pair-requires-clause-sink : goal.settle_pair-requires-clause-sink
settle_pair-requires-clause-sink g c κs within =
    let t = told g.H.In.Source.rest g.H.In.Source.faults g.H.In.Source.name g.H.Out.Sink.written g.H.Out.Sink.handed g.H.Out.Sink.faults g.H.Out.Sink.name in
    let is = turn_open (λ s. t s.0 s.1) (g.H.House.state c.loop-source.house) c.args.names.now c.loop-source.streams.items c.pop.new.self.items (c.in-Some.source, c.in-Some.sink)
    c.loop-source.invariant.opened c.in-Some.ensures.items c.len.result (c.len.ensures ∙ c.pop.new.self.ok.0) c.index-names-len.result c.index-names-len.is c.requires.distinct in
    is.sink_name ∙ sym c.index-names-len.result.behind

pub loop-source-preserved : goal.loop-source-preserved
loop-source-preserved g c =
    let t = told g.H.In.Source.rest g.H.In.Source.faults g.H.In.Source.name g.H.Out.Sink.written g.H.Out.Sink.handed g.H.Out.Sink.faults g.H.Out.Sink.name in
    let house = g.H.House.state c.loop-source.house in
    let others = turn_others (λ s. t s.0 s.1) house c.args.names.now c.loop-source.streams.items c.pop.new.self.items (c.in-Some.source, c.in-Some.sink)
    c.loop-source.invariant.opened c.in-Some.ensures.items c.len.result (c.len.ensures ∙ c.pop.new.self.ok.0) c.index-names-len.result c.index-names-len.is c.requires.distinct in
    let left = turn_left (λ s. t s.0 s.1) house c.args.names.now c.loop-source.streams.items c.pop.new.self.items (c.in-Some.source, c.in-Some.sink)
    c.loop-source.invariant.opened c.in-Some.ensures.items c.len.result (c.len.ensures ∙ c.pop.new.self.ok.0) c.index-names-len.result c.index-names-len.is c.requires.distinct in
    record {
      within = omega (arith, c.loop-source.invariant.within, c.in-Some.ensures.len);
      opened = subst (λ (h : HouseState). AreOpen h (names_of c.args.names.now) (map (λ s. t s.0 s.1) c.pop.new.self.items)) (sym c.settle_pair.ensures) others;
      left = ap (λ (h : HouseState). settled_all h (names_of c.args.names.now) (map (λ s. t s.0 s.1) c.pop.new.self.items)) c.settle_pair.ensures ∙ left ∙ c.loop-source.invariant.left;
    }
