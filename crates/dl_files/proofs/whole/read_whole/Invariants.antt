use Rattle.std.proofs.Common.{◌≡◌, ◌≤◌, ◌+◌, ◌-◌, vec_len}
use Rattle.std.specs.Io.KnownBytes.{prepend_known}
use Rattle.dl_files.proofs.whole.read_whole.Given as goal

abbrev pub invariant-loop-bytes : goal.invariant-loop-bytes
invariant-loop-bytes g l = record {
  room : vec_len l.room ≡ 65536;
  bytes : g.S.Source.rest l.fn.source ≡ prepend_known l.bytes.items (g.S.Source.rest l.source);
  within : vec_len l.bytes ≤ l.limit + 1;
  faults : g.S.Source.faults l.source ≡ g.S.Source.faults l.fn.source;
  name : g.S.Source.name l.source ≡ g.S.Source.name l.fn.source;
}

abbrev pub decreases-loop-bytes : goal.decreases-loop-bytes
decreases-loop-bytes g l = l.limit + 1 - vec_len l.bytes
