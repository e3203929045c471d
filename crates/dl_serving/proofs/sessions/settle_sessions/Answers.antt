use Rattle.std.proofs.Common.{◌∙◌, refl, sym, subst, ap, arith, map, string_bytes}
use Rattle.std.proofs.lemmas.List.{length-map}
use Rattle.dl_io.specs.House.{HouseState}
use Rattle.dl_sessions.specs.Served.{told}
use Rattle.dl_journal.specs.Streams.{names_of, settled_all, AreOpen}
use Rattle.dl_journal.proofs.Settled.{open_within, turn_open, turn_others, turn_left}
use Rattle.dl_serving.proofs.sessions.settle_sessions.Goals as goal

pub loop-session-init : goal.loop-session-init
loop-session-init g c =
    let t = told g.H.In.Source.rest g.H.In.Source.faults g.H.In.Source.name g.H.Out.Sink.written g.H.Out.Sink.handed g.H.Out.Sink.faults g.H.Out.Sink.name in
    let within = open_within (g.H.House.state c.args.house.now) (names_of c.args.names.now) (map (λ s. t s.source s.sink) c.args.sessions.items) c.requires.opened in
    record {
      within = omega (arith, within, length-map c.args.sessions.items (λ s. t s.source s.sink), length-map c.args.names.now (λ named. string_bytes named.name));
      opened = c.requires.opened;
      left = refl;
    }

pub settle_pair-requires-clause-input : goal.settle_pair-requires-clause-input
settle_pair-requires-clause-input g c κs within =
    let t = told g.H.In.Source.rest g.H.In.Source.faults g.H.In.Source.name g.H.Out.Sink.written g.H.Out.Sink.handed g.H.Out.Sink.faults g.H.Out.Sink.name in
    let is = turn_open (λ s. t s.source s.sink) (g.H.House.state c.loop-session.house) c.args.names.now c.loop-session.sessions.items c.pop.new.self.items c.in-Some.session
    c.loop-session.invariant.opened c.in-Some.ensures.items c.len.result (c.len.ensures ∙ c.pop.new.self.ok.0) c.index-names-len.result c.index-names-len.is c.requires.distinct in
    is.input

pub settle_pair-requires-clause-output : goal.settle_pair-requires-clause-output
settle_pair-requires-clause-output g c κs within =
    let t = told g.H.In.Source.rest g.H.In.Source.faults g.H.In.Source.name g.H.Out.Sink.written g.H.Out.Sink.handed g.H.Out.Sink.faults g.H.Out.Sink.name in
    let is = turn_open (λ s. t s.source s.sink) (g.H.House.state c.loop-session.house) c.args.names.now c.loop-session.sessions.items c.pop.new.self.items c.in-Some.session
    c.loop-session.invariant.opened c.in-Some.ensures.items c.len.result (c.len.ensures ∙ c.pop.new.self.ok.0) c.index-names-len.result c.index-names-len.is c.requires.distinct in
    ap (g.H.House.state c.loop-session.house).open_out c.index-names-len.result.behind ∙ is.output

pub settle_pair-requires-clause-source : goal.settle_pair-requires-clause-source
settle_pair-requires-clause-source g c κs within =
    let t = told g.H.In.Source.rest g.H.In.Source.faults g.H.In.Source.name g.H.Out.Sink.written g.H.Out.Sink.handed g.H.Out.Sink.faults g.H.Out.Sink.name in
    let is = turn_open (λ s. t s.source s.sink) (g.H.House.state c.loop-session.house) c.args.names.now c.loop-session.sessions.items c.pop.new.self.items c.in-Some.session
    c.loop-session.invariant.opened c.in-Some.ensures.items c.len.result (c.len.ensures ∙ c.pop.new.self.ok.0) c.index-names-len.result c.index-names-len.is c.requires.distinct in
    is.source_name

pub settle_pair-requires-clause-sink : goal.settle_pair-requires-clause-sink
settle_pair-requires-clause-sink g c κs within =
    let t = told g.H.In.Source.rest g.H.In.Source.faults g.H.In.Source.name g.H.Out.Sink.written g.H.Out.Sink.handed g.H.Out.Sink.faults g.H.Out.Sink.name in
    let is = turn_open (λ s. t s.source s.sink) (g.H.House.state c.loop-session.house) c.args.names.now c.loop-session.sessions.items c.pop.new.self.items c.in-Some.session
    c.loop-session.invariant.opened c.in-Some.ensures.items c.len.result (c.len.ensures ∙ c.pop.new.self.ok.0) c.index-names-len.result c.index-names-len.is c.requires.distinct in
    is.sink_name ∙ sym c.index-names-len.result.behind

pub loop-session-preserved : goal.loop-session-preserved
loop-session-preserved g c =
    let t = told g.H.In.Source.rest g.H.In.Source.faults g.H.In.Source.name g.H.Out.Sink.written g.H.Out.Sink.handed g.H.Out.Sink.faults g.H.Out.Sink.name in
    let house = g.H.House.state c.loop-session.house in
    let others = turn_others (λ s. t s.source s.sink) house c.args.names.now c.loop-session.sessions.items c.pop.new.self.items c.in-Some.session
    c.loop-session.invariant.opened c.in-Some.ensures.items c.len.result (c.len.ensures ∙ c.pop.new.self.ok.0) c.index-names-len.result c.index-names-len.is c.requires.distinct in
    let left = turn_left (λ s. t s.source s.sink) house c.args.names.now c.loop-session.sessions.items c.pop.new.self.items c.in-Some.session
    c.loop-session.invariant.opened c.in-Some.ensures.items c.len.result (c.len.ensures ∙ c.pop.new.self.ok.0) c.index-names-len.result c.index-names-len.is c.requires.distinct in
    record {
      within = omega (arith, c.loop-session.invariant.within, c.in-Some.ensures.len);
      opened = subst (λ (h : HouseState). AreOpen h (names_of c.args.names.now) (map (λ s. t s.source s.sink) c.pop.new.self.items)) (sym c.settle_pair.ensures) others;
      left = ap (λ (h : HouseState). settled_all h (names_of c.args.names.now) (map (λ s. t s.source s.sink) c.pop.new.self.items)) c.settle_pair.ensures ∙ left ∙ c.loop-session.invariant.left;
    }
