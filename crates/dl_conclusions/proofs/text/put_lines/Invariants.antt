use Rattle.std.proofs.Common.{◌≡◌, ◌+◌, ◌++◌, length}
use Rattle.std.specs.Vec.{vec_len, vec_capacity}
use Rattle.dl_conclusions.specs.Text.{lines_before}
use Rattle.dl_conclusions.proofs.text.put_lines.Given as goal

abbrev pub invariant-loop-at : goal.invariant-loop-at
invariant-loop-at l = record {
  lines : lines_before l.family l.conclusions l.at ≡ lines_before l.family l.conclusions l.from ++ l.text.items;
  len : vec_len l.text + length (lines_before l.family l.conclusions l.from) ≡ length (lines_before l.family l.conclusions l.at);
  capacity : vec_capacity l.text ≡ vec_capacity l.fn.text;
}
