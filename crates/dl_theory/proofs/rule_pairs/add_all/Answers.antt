use Rattle.std.proofs.Common.{List, subst}
use Rattle.dl_sup.specs.declared.link.Link.{Link}
use Rattle.dl_theory.specs.declared.edit.PairsStop.{PairsStop}
use Rattle.dl_theory.specs.Pairs.{IsWithin}
use Rattle.dl_theory.specs.Superiority.{IsToldAs}
use Rattle.dl_theory.proofs.Extending.{extended, extended_order, extended_all, stop_within, told_refused}
use Rattle.dl_theory.proofs.rule_pairs.add_all.Goals as goal

pub returns-in-Ok-clause-order : goal.returns-in-Ok-clause-order
returns-in-Ok-clause-order c =
    let old : List Link = c.args.links.now.items in
    let new : List Link = c.extend_order.new.links.items in
    let done = c.extend_order.ensures in
    extended_order old new c.args.more.now
    (extended old new c.args.more.now c.extend_order.result done.accepted done.added done.stopped) c.requires.order

pub told-stop-requires : goal.told-stop-requires
told-stop-requires c =
    let old : List Link = c.args.links.now.items in
    let new : List Link = c.extend_order.new.links.items in
    let done = c.extend_order.ensures in
    stop_within old new c.args.more.now c.args.items.now c.in-Err.stop
    (extended old new c.args.more.now c.extend_order.result done.accepted done.added done.stopped)
    c.requires.old_within c.requires.more_within c.in-Err.ensures.stopped

pub returns-in-Refused-clause-order : goal.returns-in-Refused-clause-order
returns-in-Refused-clause-order c =
    let old : List Link = c.args.links.now.items in
    let new : List Link = c.extend_order.new.links.items in
    let done = c.extend_order.ensures in
    extended_order old new c.args.more.now
    (extended old new c.args.more.now c.extend_order.result done.accepted done.added done.stopped) c.requires.order

pub returns-in-Refused-clause-within : goal.returns-in-Refused-clause-within
returns-in-Refused-clause-within c =
    let old : List Link = c.args.links.now.items in
    let new : List Link = c.extend_order.new.links.items in
    let done = c.extend_order.ensures in
    extended_all old new c.args.more.now
    (extended old new c.args.more.now c.extend_order.result done.accepted done.added done.stopped)
    (IsWithin c.args.items.now) c.requires.old_within c.requires.more_within

pub returns-in-Refused-clause-outcome : goal.returns-in-Refused-clause-outcome
returns-in-Refused-clause-outcome c =
    told_refused c.args.links.now.items c.extend_order.new.links.items c.args.more.now c.args.items.now c.in-Err.stop c.in-Refused.at c.in-Refused.refusal
    c.in-Err.ensures.stopped (subst (λ (stop : PairsStop). IsToldAs c.args.items.now c.in-Err.stop stop) c.in-Refused.is c.told-stop.ensures)
