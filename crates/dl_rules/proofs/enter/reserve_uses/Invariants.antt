use Rattle.std.proofs.Common.{◌≡◌, ◌<◌, length, take}
use Rattle.std.specs.Prelude.{All}
use Rattle.dl_rows.specs.Tables.{KeepsLists, spare_at}
use Rattle.dl_rules.proofs.enter.reserve_uses.Given as goal

abbrev pub invariant-loop-number : goal.invariant-loop-number
invariant-loop-number l = record {
  same : length l.uses.lists ≡ length l.fn.uses.lists;
  kept : KeepsLists l.fn.uses l.uses;
  room : All (λ b. 0 < spare_at l.uses b) (take l.number-index l.body);
}
