use Rattle.std.proofs.Common.{◌-◌, ◌≤◌, length, take, All}
use Rattle.dl_calls.specs.Spelled.{IsSpelled}
use Rattle.dl_journal.proofs.journal.history_is_spelled.Given as goal

abbrev pub invariant-loop-entry : goal.invariant-loop-entry
invariant-loop-entry g l = record {
  within : l.at ≤ length l.board.history;
  spelled : All IsSpelled (take l.at l.board.history);
}

abbrev pub decreases-loop-entry : goal.decreases-loop-entry
decreases-loop-entry g l = length l.board.history - l.at
