use Rattle.std.proofs.Common.{◌≡◌, Option, Some, refl, sym, ap, subst, ◌∙◌}
use Rattle.std.specs.Prelude.{unwrap_or}
use Rattle.dl_sup.specs.declared.link.Link.{Link}
use Rattle.dl_net.specs.declared.tables.Tables.{Tables}
use Rattle.dl_net.specs.Kept.{lists_of}
use Rattle.dl_net.specs.PairEdits.{IsLinkOf}
use Rattle.dl_net.proofs.PairTables.{index_unlinked, pair_dropped}
use Rattle.dl_net.proofs.tables.Tables.drop_pair.Goals as goal

pub unreachable-requires : goal.unreachable-requires
unreachable-requires c = let none = sym c.requires.room.leaving ∙ sym c.leaving.ensures ∙ c.in-None.is in cc

pub drop_pair-requires : goal.drop_pair-requires
drop_pair-requires c = sym c.leaving.ensures ∙ c.in-Some.is

pub take_link-requires : goal.take_link-requires
take_link-requires c =
    let same : c.requires.room.link ≡ c.in-Some.link =
    ap (λ (o : Option Link). unwrap_or o c.in-Some.link) (sym c.requires.room.leaving ∙ sym c.leaving.ensures ∙ c.in-Some.is) in
    c.requires.room.unlinking ∙ ap (λ (l : Link). Some (record { upper = l.upper; lower = l.lower })) same

pub returns : goal.returns
returns c =
    let same : c.requires.room.link ≡ c.in-Some.link =
    ap (λ (o : Option Link). unwrap_or o c.in-Some.link) (sym c.requires.room.leaving ∙ sym c.leaving.ensures ∙ c.in-Some.is) in
    let old : Tables = c.args.self.now in
    let new : Tables = record old { pairs = c.drop_pair.new.self; index = c.take_link.new.self; order = c.drop_from.new.order } in
    let l : Link = c.in-Some.link in
    let is : IsLinkOf old l c.args.pair.now = subst (λ (m : Link). IsLinkOf old m c.args.pair.now) same c.requires.room.is in
    let gone = c.drop_pair.ensures.items in
    let settled = c.requires.room.settled in
    pair_dropped old new c.requires.kept l c.args.pair.now is c.drop_pair.ensures.ready settled.label refl gone.0 gone.1 settled.pair
    gone.2 c.drop_from.ensures
    (index_unlinked (lists_of old) c.requires.kept.tables l is.there gone.0 gone.1 new.index
    c.take_link.ensures.lines c.take_link.ensures.lowers c.take_link.ensures.uppers)
