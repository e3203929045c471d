use Rattle.std.proofs.Common.{◌≡◌, ℕ, ◌≤◌, length, take, cond}
use Rattle.dl_rows.specs.Tables.{list_at, spare_at, drop_item}
use Rattle.dl_rows.specs.Counting.{is_in}
use Rattle.dl_rules.proofs.leave.take_out.Given as goal

abbrev pub invariant-loop-number : goal.invariant-loop-number
invariant-loop-number l = record {
  lists : (n : ℕ) → list_at l.rows n ≡ cond (is_in (take l.number-index l.numbers) n) (drop_item l.item (list_at l.fn.rows n)) (list_at l.fn.rows n);
  same : length l.rows.lists ≡ length l.fn.rows.lists;
  room : (n : ℕ) → spare_at l.fn.rows n ≤ spare_at l.rows n;
}
