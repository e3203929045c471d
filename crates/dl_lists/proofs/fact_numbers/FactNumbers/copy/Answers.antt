use Rattle.std.proofs.Common.{refl, arith}
use Rattle.dl_lists.proofs.FactLemmas.{kept_wider}
use Rattle.dl_lists.proofs.fact_numbers.FactNumbers.copy.Goals as goal

pub invariant_of-result : goal.invariant_of-result
invariant_of-result c =
    kept_wider c.self.inside _ c.self.invariant c.in_ok-facts.ensures (omega arith) c.self.invariant.narrow
    (c.in_ok-places.ensures.placed c.self.inside.facts.items c.self.inside.width c.self.invariant.placed) refl tt
