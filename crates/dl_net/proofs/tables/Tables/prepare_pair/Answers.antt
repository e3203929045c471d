use Rattle.std.proofs.Common.{◌<◌, ◌≤◌, length, refl, sym, ap, subst, arith}
use Rattle.std.proofs.lemmas.Result.{err_from_is_err_and}
use Rattle.dl_theory.specs.declared.rule.Pair.{Pair}
use Rattle.dl_theory.specs.declared.edit.Edit.TheVariants.{AddPair}
use Rattle.dl_theory.specs.declared.edit.EditRefusal.TheVariants.{PairsFull}
use Rattle.dl_theory.specs.Edits.{IsAccepted, IsRefused, IsStopped}
use Rattle.dl_rows.specs.There.{there}
use Rattle.dl_graph.specs.Tables.{AreTables}
use Rattle.dl_net.specs.declared.tables.Tables.{Tables}
use Rattle.dl_net.specs.Kept.{lists_of, theory_in}
use Rattle.dl_net.proofs.PairTables.{accepted, full, keeps_rules, pair_forgotten, pair_prepared, room_frame, room_kept}
use Rattle.dl_lists.specs.Pairs.{no_pairs}
use Rattle.dl_net.proofs.tables.Tables.prepare_pair.Goals as goal

pub returns-in_err-add_to_order-clause-answered : goal.returns-in_err-add_to_order-clause-answered
returns-in_err-add_to_order-clause-answered c =
    let p = err_from_is_err_and c.from_residual-in_err-add_to_order.result c.from_residual-in_err-add_to_order.ensures.1 in
    rw (p.1, p.2)
    (subst (λ (q : Pair). IsStopped (theory_in c.args.self.now) (AddPair q) c.in_err-add_to_order.field-0.0) c.in-Ok.ensures.there.names
    c.in_err-add_to_order.ensures.stopped)

pub returns-then-live-ge-LIMIT-clause-answered : goal.returns-then-live-ge-LIMIT-clause-answered
returns-then-live-ge-LIMIT-clause-answered c =
    let old : Tables = c.args.self.now in
    let many : 1000000 ≤ length (there old.pairs.items) =
    omega (arith, c.if-live-ge-LIMIT.true, c.live.ensures, ap (λ (t : Tables). length (there t.pairs.items)) c.add_to_order.ensures.frame) in
    subst (λ (q : Pair). IsRefused (theory_in old) (AddPair q) PairsFull) c.in-Ok.ensures.there.names
    (full (lists_of old) c.requires.kept.tables c.in-Ok.link c.in-Ok.ensures.there.there c.in_ok-add_to_order.ensures.accepted many)

pub returns-then-live-ge-LIMIT-clause-keeps : goal.returns-then-live-ge-LIMIT-clause-keeps
returns-then-live-ge-LIMIT-clause-keeps c =
    let old : Tables = c.args.self.now in
    pair_forgotten old c.add_to_order.new.self c.forget_link.new.self old.pairs old.index c.add_to_order.new.self.order c.requires.kept refl c.add_to_order.ensures.frame
    (keeps_rules old.index) c.forget_link.ensures.frame c.forget_link.ensures.order

pub make_room-requires-clause-kept : goal.make_room-requires-clause-kept
make_room-requires-clause-kept c = subst AreTables (ap lists_of (sym c.add_to_order.ensures.frame)) c.requires.kept.tables

pub returns-in-Err-make_room-clause-keeps : goal.returns-in-Err-make_room-clause-keeps
returns-in-Err-make_room-clause-keeps c =
    let old : Tables = c.args.self.now in
    let first : Tables = c.add_to_order.new.self in
    let mid : Tables = c.make_room.new.self in
    pair_forgotten old mid c.forget_link-in-Err-make_room.new.self (record no_pairs { items = old.pairs.items; ready = mid.pairs.ready }) mid.index first.order c.requires.kept refl
    (room_frame old first c.add_to_order.ensures.frame mid c.make_room.ensures.frame)
    (room_kept old first c.add_to_order.ensures.frame mid.index c.make_room.ensures.kept)
    c.forget_link-in-Err-make_room.ensures.frame c.forget_link-in-Err-make_room.ensures.order

pub returns-in-Ok-make_room-clause-answered : goal.returns-in-Ok-make_room-clause-answered
returns-in-Ok-make_room-clause-answered c =
    let old : Tables = c.args.self.now in
    let few : length (there old.pairs.items) < 1000000 =
    omega (arith, c.if-live-ge-LIMIT.false, c.live.ensures, ap (λ (t : Tables). length (there t.pairs.items)) c.add_to_order.ensures.frame) in
    subst (λ (q : Pair). IsAccepted (theory_in old) (AddPair q)) c.in-Ok.ensures.there.names
    (accepted (lists_of old) c.requires.kept.tables c.in-Ok.link c.in-Ok.ensures.there.there c.in_ok-add_to_order.ensures.accepted few)

pub returns-in-Ok-make_room-clause-keeps : goal.returns-in-Ok-make_room-clause-keeps
returns-in-Ok-make_room-clause-keeps c =
    pair_prepared c.args.self.now c.add_to_order.new.self c.add_to_order.ensures.frame c.make_room.new.self c.in-Ok.link c.requires.kept
    c.in_ok-add_to_order.ensures.added c.make_room.ensures.frame c.make_room.ensures.kept c.in-Ok-make_room.ensures.ready
