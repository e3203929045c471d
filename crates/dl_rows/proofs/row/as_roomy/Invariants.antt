use Rattle.std.proofs.Common.{◌≡◌, take}
use Rattle.std.specs.Vec.{vec_len, vec_capacity}
use Rattle.dl_rows.proofs.row.as_roomy.Given as goal

abbrev pub invariant-loop-number : goal.invariant-loop-number
invariant-loop-number l = record {
  items : l.copy.items ≡ take l.number-index l.list.items;
  filled : vec_len l.copy ≡ l.number-index;
  room : vec_capacity l.copy ≡ vec_capacity l.list;
}
