use Rattle.std.specs.Prelude.{nat_eq}
use Rattle.std.specs.Set.{is_member}
use Rattle.std.proofs.lemmas.Map.Made.{is_member-Decides}
use Rattle.std.proofs.lemmas.Bool.Decides.{Decides-eqb}
use Rattle.dl_base.proofs.Filters.{false_unless}
use Rattle.dl_derive.proofs.found.append.Goals as goal

pub returns-clause-ok : goal.returns-clause-ok
returns-clause-ok c =
    rw c.in_ok-insert.ensures.keys
    (rw (false_unless (is_member nat_eq c.args.numbers.now.keys c.args.number) (is_member-Decides Decides-eqb c.args.numbers.now.keys c.args.number) c.requires))
