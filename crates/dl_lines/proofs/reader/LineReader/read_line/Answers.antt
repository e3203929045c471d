use Rattle.std.proofs.Common.{refl, ◌∙◌}
use Rattle.dl_lines.specs.Steps.{IsCut}
use Rattle.dl_lines.proofs.Calls.{took_none, round_held, round_ends, round_cuts, round_goes_on}
use Rattle.dl_lines.proofs.reader.LineReader.read_line.Goals as goal

pub reading-init : goal.reading-init
reading-init g c = record {
  took = took_none (g.S.Source.rest c.args.source.now) c.args.self.now c.requires.going;
  clear = c.requires.clear;
  faults = refl;
  name = refl;
}

pub returns-in-Err-clause-next : goal.returns-in-Err-clause-next
returns-in-Err-clause-next g c =
    round_ends (g.S.Source.rest c.args.source.now) (g.S.Source.rest c.reading.source) (g.S.Source.rest c.read_more.new.source)
    c.args.self.now c.reading.self c.forget-long.new.self c.read_more.new.self c.end.new.self c.reading.long c.forget-long.result c.in-Err.ending c.end.result
    c.requires.clear c.reading.invariant.took c.reading.invariant.clear c.forget-long.ensures c.read_more.ensures.grows c.in-Err.ensures.ends c.end.ensures

pub cut-requires : goal.cut-requires
cut-requires g c =
    let cut : IsCut c.read_more.new.self.ahead c.in-Some.len = c.in-Some.ensures
    (round_held (g.S.Source.rest c.reading.source) (g.S.Source.rest c.read_more.new.source) c.reading.self c.forget-long.new.self c.read_more.new.self
    c.reading.long c.forget-long.result c.held-held.result c.reading.invariant.clear c.forget-long.ensures c.read_more.ensures.grows c.held-held.ensures) in
    cut.within

pub returns-in-Some-clause-next : goal.returns-in-Some-clause-next
returns-in-Some-clause-next g c =
    let cut : IsCut c.read_more.new.self.ahead c.in-Some.len = c.in-Some.ensures
    (round_held (g.S.Source.rest c.reading.source) (g.S.Source.rest c.read_more.new.source) c.reading.self c.forget-long.new.self c.read_more.new.self
    c.reading.long c.forget-long.result c.held-held.result c.reading.invariant.clear c.forget-long.ensures c.read_more.ensures.grows c.held-held.ensures) in
    round_cuts (g.S.Source.rest c.args.source.now) (g.S.Source.rest c.reading.source) (g.S.Source.rest c.read_more.new.source)
    c.args.self.now c.reading.self c.forget-long.new.self c.read_more.new.self c.cut.new.self c.reading.long c.forget-long.result c.in-Some.len c.cut.result
    c.requires.clear c.reading.invariant.took c.reading.invariant.clear c.forget-long.ensures c.read_more.ensures.grows cut c.cut.ensures.off c.cut.ensures.answers

pub reading-preserved : goal.reading-preserved
reading-preserved g c = record {
  took = round_goes_on (g.S.Source.rest c.args.source.now) (g.S.Source.rest c.reading.source) (g.S.Source.rest c.read_more.new.source)
      c.args.self.now c.reading.self c.forget-long.new.self c.read_more.new.self c.reading.long c.forget-long.result
      c.requires.clear c.reading.invariant.took c.reading.invariant.clear c.forget-long.ensures c.read_more.ensures.grows;
  clear = c.in_default-find.ensures
      (round_held (g.S.Source.rest c.reading.source) (g.S.Source.rest c.read_more.new.source) c.reading.self c.forget-long.new.self c.read_more.new.self
      c.reading.long c.forget-long.result c.held-held.result c.reading.invariant.clear c.forget-long.ensures c.read_more.ensures.grows c.held-held.ensures);
  faults = c.in_default.ensures.cause ∙ c.reading.invariant.faults;
  name = c.read_more.ensures.name ∙ c.reading.invariant.name;
}
