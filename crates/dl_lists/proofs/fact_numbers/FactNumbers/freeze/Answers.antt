use Rattle.std.proofs.Common.{refl, arith}
use Rattle.dl_lists.proofs.FactLemmas.{kept_wider}
use Rattle.dl_lists.proofs.fact_numbers.FactNumbers.freeze.Goals as goal

pub invariant_of-self : goal.invariant_of-self
invariant_of-self c =
    kept_wider c.self.inside _ c.self.invariant c.freeze.ensures (omega arith) c.self.invariant.narrow
    (c.freeze_places.ensures c.self.inside.facts.items c.self.inside.width c.self.invariant.placed) refl tt
