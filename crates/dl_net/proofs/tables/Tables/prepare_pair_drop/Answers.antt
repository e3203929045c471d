use Rattle.std.proofs.Common.{refl, sym, ◌∙◌}
use Rattle.dl_net.specs.Kept.{theory_in}
use Rattle.dl_net.proofs.EditLemmas.{order_same}
use Rattle.dl_net.proofs.PairTables.{keeps_pairs, no_pair, pair_of_link, link_of_pair}
use Rattle.dl_net.proofs.tables.Tables.prepare_pair_drop.Goals as goal

pub returns-in-Err-clause-answered : goal.returns-in-Err-clause-answered
returns-in-Err-clause-answered c =
    no_pair (theory_in c.args.self.now) c.args.pair.now c.in-Err.field-0.now c.requires.kept.tables.formed c.in-Err.ensures.missing

pub returns-then-not-branch-clause-answered : goal.returns-then-not-branch-clause-answered
returns-then-not-branch-clause-answered c m =
    let on = c.in_ok-prepare_drop.ensures.there.1 (link_of_pair c.args.self.now c.requires.kept c.in-Ok.link c.args.pair.now c.in-Ok.ensures.there m) in
    let off = c.if-not-branch.true in cc

pub returns-clause-answered : goal.returns-clause-answered
returns-clause-answered c =
    let off = c.if-not-branch.false in
    pair_of_link c.args.self.now c.requires.kept c.in-Ok.link c.args.pair.now c.in-Ok.ensures.there (c.in_ok-prepare_drop.ensures.there.0 (cc))

pub returns-in_err-reserve_unlink-clause-keeps : goal.returns-in_err-reserve_unlink-clause-keeps
returns-in_err-reserve_unlink-clause-keeps c =
    keeps_pairs c.args.self.now c.prepare_drop.new.self c.reserve_unlink.new.self c.args.self.now.order c.requires.kept c.prepare_drop.ensures.items c.reserve_unlink.ensures.kept
    (order_same c.args.self.now.order c.args.self.now.order c.args.self.now.pairs.items c.prepare_drop.new.self.items c.args.self.now.pairs.ready
    c.prepare_drop.new.self.ready refl c.prepare_drop.ensures.items (c.prepare_drop.ensures.ready ∙ sym c.requires.settled.pair) c.requires.kept.order)

pub returns-clause-keeps : goal.returns-clause-keeps
returns-clause-keeps c =
    keeps_pairs c.args.self.now c.prepare_drop.new.self c.reserve_unlink.new.self c.args.self.now.order c.requires.kept c.prepare_drop.ensures.items c.reserve_unlink.ensures.kept
    (order_same c.args.self.now.order c.args.self.now.order c.args.self.now.pairs.items c.prepare_drop.new.self.items c.args.self.now.pairs.ready
    c.prepare_drop.new.self.ready refl c.prepare_drop.ensures.items (c.prepare_drop.ensures.ready ∙ sym c.requires.settled.pair) c.requires.kept.order)
