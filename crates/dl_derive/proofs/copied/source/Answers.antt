use Rattle.std.proofs.Common.{sym, true≢false, ◌∙◌}
use Rattle.dl_derive.proofs.Answered.{found}
use Rattle.dl_derive.proofs.Copying.{named_of, number_of}
use Rattle.dl_derive.proofs.copied.source.Goals as goal

pub returns-then-holds-clause-same : goal.returns-then-holds-clause-same
returns-then-holds-clause-same c = (found c.args.net.now c.args.literal.now c.in-Some.number (sym c.find.ensures.number ∙ c.in-Some.is)).1

pub returns-else-holds-clause-absent : goal.returns-else-holds-clause-absent
returns-else-holds-clause-absent c = λ of.
    let there = found c.args.net.now c.args.literal.now c.in-Some.number (sym c.find.ensures.number ∙ c.in-Some.is) in
    true≢false (sym (c.holds.ensures.1
    (number_of c.args.net.now c.names-names.ensures.numbered c.args.found.now.members c.requires c.args.literal.now c.in-Some.number there.0 there.1 of))
    ∙ c.if-holds.false)

pub returns-in-None-clause-absent : goal.returns-in-None-clause-absent
returns-in-None-clause-absent c = λ of.
    c.in-None.ensures.absent (named_of c.args.net.now c.names-names.ensures.numbered c.args.found.now.members c.requires c.args.literal.now of)
