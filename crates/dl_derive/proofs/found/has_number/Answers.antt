use Rattle.std.proofs.lemmas.Map.Made.{is_member-Decides}
use Rattle.std.proofs.lemmas.Bool.Decides.{Decides-eqb}
use Rattle.dl_derive.proofs.found.has_number.Goals as goal

pub returns : goal.returns
returns c = rw c.contains.ensures (is_member-Decides Decides-eqb c.args.numbers.now.keys c.args.number)
