use Rattle.dl_lit.specs.Borrowed.{literal_of}
use Rattle.dl_names.proofs.PartLemmas.{joined_next, joined_all}
use Rattle.dl_names.proofs.shared_pairs.joined.Goals as goal

pub loop-first-preserved : goal.loop-first-preserved
loop-first-preserved c =
    joined_next c.args.shared.now c.args.later.now c.loop-first.both c.put.new.self c.loop-first.place c.in_ok-copy.field-0 (literal_of c.in-Some.first)
    c.in_ok-put.field-0 c.requires.distinct c.in-Some.ensures c.in_ok-copy.ensures c.loop-first.invariant c.in_ok-put.ensures.added c.in_ok-put.ensures.old

pub returns : goal.returns
returns c = joined_all c.args.shared.now c.args.later.now c.loop-first.both c.loop-first.place c.in_default.ensures c.loop-first.invariant
