use Rattle.std.proofs.Common.{◌≡◌, ℕ, ◌++◌, ◌∷◌, [], length, take, cond}
use Rattle.dl_rows.specs.Tables.{list_at}
use Rattle.dl_rows.specs.Counting.{is_in}
use Rattle.dl_rules.proofs.rule_lists.append_uses.Given as goal

abbrev pub invariant-loop-number : goal.invariant-loop-number
invariant-loop-number l = record {
  lists : (n : ℕ) → list_at l.uses n ≡ list_at l.fn.uses n ++ cond (is_in (take l.number-index l.body) n) (l.rule ∷ []) [];
  wide : length l.uses.lists ≡ length l.fn.uses.lists;
}
