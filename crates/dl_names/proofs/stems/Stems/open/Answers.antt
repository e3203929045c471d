use Rattle.dl_names.proofs.StemLemmas.{knows_pushed, knows_same}
use Rattle.dl_names.proofs.stems.Stems.open.Goals as goal

pub loop-alloc-preserved : goal.loop-alloc-preserved
loop-alloc-preserved c =
    λ a n knows. c.loop-alloc.invariant a n (knows_pushed c.loop-alloc.self (record { stems = c.push.new.self }) c.make.result c.in-Ok.ensures.items c.make.ensures a n knows)

pub returns-in-Err : goal.returns-in-Err
returns-in-Err c =
    λ a n knows. c.loop-alloc.invariant a n (knows_same c.loop-alloc.self (record { stems = c.push.new.self }) c.in-Err.ensures.items a n knows)
