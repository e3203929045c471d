use Rattle.std.proofs.lemmas.Bool.Decides.{Decides-at}
use Rattle.dl_check.specs.Derived.{stands}
use Rattle.dl_check.proofs.Standing.{stands_decides}
use Rattle.dl_check.proofs.derived.Members.holds.Goals as goal

pub returns : goal.returns
returns c = λ xs h. Decides-at c.has.result (stands c.args.self.now c.args.x.now) c.has.ensures (stands_decides c.args.self.now xs h c.args.x.now)
