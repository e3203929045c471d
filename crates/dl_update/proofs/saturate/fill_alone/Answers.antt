use Rattle.std.proofs.Common.{arith, ◌∙◌}
use Rattle.dl_update.proofs.saturate.fill_alone.Goals as goal

pub fill_once-requires-clause-room : goal.fill_once-requires-clause-room
fill_once-requires-clause-room g c = record {
  width = c.in_ok-reserve.ensures.width ∙ c.make-room.ensures.width;
  rules = omega (arith, c.rule_numbers.ensures, c.in_ok-reserve.ensures.rules);
  names = omega (arith, c.names.ensures.len, c.in_ok-reserve.ensures.names);
}
