use Rattle.std.proofs.Common.{◌∙◌}
use Rattle.dl_update.proofs.Whole.{all_put}
use Rattle.dl_update.proofs.unmarked.everywhere.Goals as goal

pub loop-number-preserved : goal.loop-number-preserved
loop-number-preserved c = record {
  bound = c.put.ensures.bound ∙ c.loop-number.invariant.bound;
  all = all_put c.loop-number.region.members c.put.new.self.members c.loop-number.number c.put.ensures.there c.put.ensures.new c.loop-number.invariant.all;
}
