-- Pairs whose labels stand elsewhere.
use Rattle.dl_theory.specs.declared.rule.Pair.{Pair}
use Rattle.dl_graph.specs.declared.pair_ref.PairRef.{PairRef}

-- the pair that is borrowed
abbrev pub pair_of : PairRef → Pair
pair_of p = record { upper = p.upper.now; lower = p.lower.now }
