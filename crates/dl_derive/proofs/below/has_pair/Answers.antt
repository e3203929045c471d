use Rattle.std.proofs.lemmas.Map.Made.{is_member-Decides}
use Rattle.dl_theory.specs.Pairs.{pair_eq-Decides}
use Rattle.dl_derive.proofs.below.has_pair.Goals as goal

pub returns : goal.returns
returns c = rw c.contains.ensures (is_member-Decides pair_eq-Decides c.args.pairs.now.keys c.args.pair.now)
