use Rattle.dl_derive.proofs.Wanting.{more_set}
use Rattle.dl_derive.proofs.wanted.want.Goals as goal

pub returns-clause-more : goal.returns-clause-more
returns-clause-more c = more_set c.args.wanted.now.items c.args.node c.requires
