use Rattle.std.proofs.Common.{rules, arith, List, ℕ, Option}
use Rattle.dl_rows.proofs.There.{has_there, there_has, has_within}
use Rattle.dl_text_tests.proofs.lists.number_of.Goals as goal

pub returns-then-eq-clause-there : goal.returns-then-eq-clause-there
returns-then-eq-clause-there c = has_there c.args.facts.now.items c.args.literal c.loop-number.number (search rules)

pub returns-clause-absent : goal.returns-clause-absent
returns-clause-absent c = λ m.
    let items : List (Option ℕ) = c.args.facts.now.items in
    let from = there_has items c.args.literal m in
    let within = has_within items c.args.literal from.0 from.1 in
    c.loop-number.invariant from.0 (omega (arith, within, c.len-number-end.ensures.len, c.loop-number-test.false)) from.1
