use Rattle.std.specs.Set.{is_member}
use Rattle.std.proofs.lemmas.Map.Made.{is_member-Decides}
use Rattle.dl_base.proofs.Filters.{false_unless}
use Rattle.dl_theory.specs.Pairs.{pair_eq, pair_eq-Decides}
use Rattle.dl_derive.proofs.below.append.Goals as goal

pub returns : goal.returns
returns c =
    rw c.in_ok-insert.ensures.keys
    (rw (false_unless (is_member pair_eq c.args.pairs.now.keys c.args.pair) (is_member-Decides pair_eq-Decides c.args.pairs.now.keys c.args.pair) c.requires))
