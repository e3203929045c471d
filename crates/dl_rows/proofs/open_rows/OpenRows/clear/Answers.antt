use Rattle.std.proofs.Common.{◌≡◌, ◌<◌, Bool, List, [], get_or, set, map, sym, ap, subst, ◌∙◌}
use Rattle.dl_rows.specs.Tables.{RowLists, spare_at}
use Rattle.dl_rows.specs.OpenView.{rooms}
use Rattle.dl_rows.specs.declared.row.Row.{Row}
use Rattle.dl_rows.proofs.TableLemmas.{room_owned, room_within, rooms_other, list_written}
use Rattle.dl_rows.proofs.open_rows.OpenRows.clear.Goals as goal

pub put-gone-requires : goal.put-gone-requires
put-gone-requires c =
    room_owned c.self.inside.rows.owned c.self.inside.rows.items c.args.number
    (subst (λ (t : RowLists). 0 < spare_at t c.args.number) (sym c.self.view_is) c.requires)

pub returns-clause-lists : goal.returns-clause-lists
returns-clause-lists c =
    let has = subst (λ (t : RowLists). 0 < spare_at t c.args.number) (sym c.self.view_is) c.requires in
    let here = room_within c.self.inside.rows.owned c.self.inside.rows.items c.args.number has in
    subst (λ (t : RowLists). map (λ v. v.items) c.put-gone.new.self.items ≡ set t.lists c.args.number []) c.self.view_is
    (ap (map (λ v. v.items)) c.put-gone.ensures.items
    ∙ list_written c.self.inside.rows.items c.args.number c.put-gone.result c.make.result here c.put-gone.ensures.value (λ _. []) (ap (λ v. v.items) c.make.ensures))

pub returns-clause-room : goal.returns-clause-room
returns-clause-room c = λ n differs.
    let has = subst (λ (t : RowLists). 0 < spare_at t c.args.number) (sym c.self.view_is) c.requires in
    let here = room_within c.self.inside.rows.owned c.self.inside.rows.items c.args.number has in
    subst (λ (t : RowLists). get_or (rooms c.put-gone.new.self.owned c.put-gone.new.self.items) n 0 ≡ spare_at t n) c.self.view_is
    (ap (λ (bs : List Bool). get_or (rooms bs c.put-gone.new.self.items) n 0) c.put-gone.ensures.owned
    ∙ ap (λ (xs : List Row). get_or (rooms c.self.inside.rows.owned xs) n 0) c.put-gone.ensures.items
    ∙ rooms_other c.self.inside.rows.items c.args.number c.put-gone.result c.make.result here c.put-gone.ensures.value c.self.inside.rows.owned n differs)
