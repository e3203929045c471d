use Rattle.std.proofs.Common.{◌+◌, ◌≤◌, length}
use Rattle.dl_summary.specs.Replaying.{Replays}
use Rattle.dl_summary.proofs.replay.Replay.of.Given as goal

abbrev pub invariant-loop-call : goal.invariant-loop-call
invariant-loop-call l = record {
  few : l.replay.accepted + l.replay.refused ≤ length l.yielded;
  replays : Replays l.initial.replay.draft l.yielded l.replay;
}
