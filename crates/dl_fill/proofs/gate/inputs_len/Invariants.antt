use Rattle.std.proofs.Common.{◌≡◌, ◌+◌, ◌*◌, ◌^◌, ◌≤◌, length, take}
use Rattle.dl_fill.specs.Wires.{inputs_at}
use Rattle.dl_fill.specs.Before.{is_inside}
use Rattle.dl_fill.proofs.gate.inputs_len.Given as goal

abbrev pub invariant-loop-w : goal.invariant-loop-w
invariant-loop-w l = record {
  len : l.len ≡ length (inputs_at l.net (is_inside l.region.members) l.width (take l.w-index l.wires) l.kind l.place);
  few : l.len + l.w-index ≤ l.w-index * 2 ^ 26;
}
