use Rattle.std.proofs.Common.{◌≡◌, ◌-◌}
use Rattle.dl_lines.specs.Steps.{HasNoLf, Took}
use Rattle.dl_lines.specs.declared.reader.TheConstants.{MOST_BYTES}
use Rattle.dl_lines.proofs.reader.LineReader.read_line.Given as goal

abbrev pub invariant-reading : goal.invariant-reading
invariant-reading g l = record {
  took : Took (g.S.Source.rest l.fn.source) (g.S.Source.rest l.source) l.fn.self l.self l.long;
  clear : HasNoLf l.self.ahead;
  faults : g.S.Source.faults l.source ≡ g.S.Source.faults l.fn.source;
  name : g.S.Source.name l.source ≡ g.S.Source.name l.fn.source;
}

abbrev pub decreases-reading : goal.decreases-reading
decreases-reading g l = MOST_BYTES - l.self.count
