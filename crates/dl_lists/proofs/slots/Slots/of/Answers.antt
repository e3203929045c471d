use Rattle.dl_lists.proofs.SlotLemmas.{slots_some}
use Rattle.dl_lists.proofs.slots.Slots.of.Goals as goal

pub returns : goal.returns
returns c = slots_some c.args.numbers.items c.requires
