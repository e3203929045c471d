use Rattle.std.proofs.Common.{◌≡◌, ◌+◌, ◌≤◌, map, take, length}
use Rattle.dl_rows.proofs.open_rows.OpenRows.of.Given as goal

abbrev pub invariant-loop-number : goal.invariant-loop-number
invariant-loop-number l = record {
  lists : map (λ v. v.items) l.rows.items ≡ take l.number l.packed;
  room : length l.packed ≤ l.rows.spare + l.number;
}
