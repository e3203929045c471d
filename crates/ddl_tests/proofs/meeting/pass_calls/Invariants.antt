use Rattle.std.proofs.Common.{◌≡◌, string_bytes}
use Rattle.dl_io.specs.Memory.{source_rest}
use Rattle.ddl_tests.proofs.meeting.pass_calls.Given as goal

abbrev pub invariant-loop : goal.invariant-loop
invariant-loop l = record {
  rest : source_rest l.source ≡ source_rest l.fn.source;
  faults : l.source.faults ≡ l.fn.source.faults;
  name : string_bytes l.source.name ≡ string_bytes l.fn.source.name;
}
