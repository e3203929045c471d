use Rattle.std.proofs.Common.{length, ap, arith}
use Rattle.dl_fill.specs.Counters.{CounterLists}
use Rattle.dl_fill.proofs.counters.Counters.word.Goals as goal

pub overflow_cast-result : goal.overflow_cast-result
overflow_cast-result c = omega (arith, c.requires, ap (λ (w : CounterLists). length w.need) c.self.view_is, c.self.invariant.small)
