use Rattle.std.proofs.Common.{◌≡◌, ◌≤◌, length, map, take, vec_capacity}
use Rattle.dl_serving.proofs.sessions.note_ends.Given as goal

abbrev pub invariant-loop-session : goal.invariant-loop-session
invariant-loop-session g l = record {
  items : l.ends.items ≡ map (λ s. s.end) (take l.session-index l.sessions);
  room : length l.sessions ≤ vec_capacity l.ends;
}
