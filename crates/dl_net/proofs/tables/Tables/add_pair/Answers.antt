use Rattle.std.proofs.Common.{◌≡◌, true, false, Option, Some, [], ◌∷◌, ◌++◌, set, refl, sym, subst, ◌∙◌}
use Rattle.std.specs.Prelude.{IfSome}
use Rattle.dl_sup.specs.declared.link.Link.{Link}
use Rattle.dl_rows.specs.Tables.{list_of}
use Rattle.dl_rules.specs.Lines.{Meeting}
use Rattle.dl_net.specs.declared.tables.Tables.{Tables}
use Rattle.dl_net.specs.Kept.{lists_of, meets}
use Rattle.dl_net.proofs.PairTables.{head_within, room_link, index_linked, index_apart, pair_put}
use Rattle.dl_net.proofs.tables.Tables.add_pair.Goals as goal

pub meet-requires-clause-few : goal.meet-requires-clause-few
meet-requires-clause-few c =
    let room = room_link c.args.self.now c.args.pair.now c.in-Some.link c.requires.room (sym c.ready.ensures ∙ c.in-Some.is) in
    head_within (lists_of c.args.self.now) c.requires.kept.tables c.in-Some.link.upper room.0.there.0

pub returns-then-meet : goal.returns-then-meet
returns-then-meet c =
    let old : Tables = c.args.self.now in
    let new : Tables = record old { pairs = c.put.new.self; index = c.put_link.new.self } in
    let l : Link = c.in-Some.link in
    let ready : old.pairs.ready ≡ Some l = sym c.ready.ensures ∙ c.in-Some.is in
    let room = room_link old c.args.pair.now l c.requires.room ready in
    let met : meets old.index l ≡ true = sym c.meet.ensures ∙ c.if-meet.true in
    pair_put old new c.requires.kept l c.args.pair.now room.0 c.put.ensures.ready c.requires.room.label refl c.requires.accepted ready c.put.ensures.items refl
    (index_linked (lists_of old) c.requires.kept.tables l room.0.there new.index met c.put_link.ensures.lines
    (subst (λ (o : Option Meeting). IfSome o (λ m. new.index.lowers ≡ set old.index.lowers m.upper (list_of old.index.lowers m.upper ++ m.lower ∷ []))) (room.1 met)
    c.put_link.ensures.lowers)
    (subst (λ (o : Option Meeting). IfSome o (λ m. new.index.uppers ≡ set old.index.uppers m.lower (list_of old.index.uppers m.lower ++ m.upper ∷ []))) (room.1 met)
    c.put_link.ensures.uppers))

pub returns-else-meet : goal.returns-else-meet
returns-else-meet c =
    let old : Tables = c.args.self.now in
    let new : Tables = record old { pairs = c.put.new.self } in
    let l : Link = c.in-Some.link in
    let ready : old.pairs.ready ≡ Some l = sym c.ready.ensures ∙ c.in-Some.is in
    let room = room_link old c.args.pair.now l c.requires.room ready in
    let met : meets old.index l ≡ false = sym c.meet.ensures ∙ c.if-meet.false in
    pair_put old new c.requires.kept l c.args.pair.now room.0 c.put.ensures.ready c.requires.room.label refl c.requires.accepted ready c.put.ensures.items refl
    (index_apart (lists_of old) c.requires.kept.tables l room.0.there met)
