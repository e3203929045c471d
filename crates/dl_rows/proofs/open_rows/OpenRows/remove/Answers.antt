use Rattle.std.proofs.Common.{◌≡◌, ◌<◌, ◌≤◌, Bool, false, List, get_or, set, map, sym, ap, subst, subst₂, ◌∙◌}
use Rattle.dl_rows.specs.Tables.{RowLists, spare_at, list_at, drop_item}
use Rattle.dl_rows.specs.OpenView.{rooms}
use Rattle.dl_rows.specs.declared.row.Row.{Row}
use Rattle.dl_rows.proofs.TableLemmas.{room_owned, room_within, rooms_rise, spare_rises, list_written, put_back}
use Rattle.dl_rows.proofs.open_rows.OpenRows.remove.Goals as goal

pub put-row-requires : goal.put-row-requires
put-row-requires c =
    room_owned c.self.inside.rows.owned c.self.inside.rows.items c.args.number
    (subst (λ (t : RowLists). 0 < spare_at t c.args.number) (sym c.self.view_is) c.requires)

pub put-none-requires : goal.put-none-requires
put-none-requires c =
    let has = subst (λ (t : RowLists). 0 < spare_at t c.args.number) (sym c.self.view_is) c.requires in
    let mine = room_owned c.self.inside.rows.owned c.self.inside.rows.items c.args.number has in
    ap (λ (bs : List Bool). get_or bs c.args.number false) c.put-row.ensures.owned ∙ mine

pub returns-clause-lists : goal.returns-clause-lists
returns-clause-lists c =
    let has = subst (λ (t : RowLists). 0 < spare_at t c.args.number) (sym c.self.view_is) c.requires in
    let here = room_within c.self.inside.rows.owned c.self.inside.rows.items c.args.number has in
    let fin = put_back c.self.inside.rows.items c.put-row.new.self.items c.put-none.new.self.items c.args.number _ c.remove.new.self
    c.put-row.ensures.items c.put-none.ensures.items in
    subst (λ (t : RowLists). map (λ v. v.items) c.put-none.new.self.items ≡ set t.lists c.args.number (drop_item c.args.item (list_at t c.args.number))) c.self.view_is
    (ap (map (λ v. v.items)) fin
    ∙ list_written c.self.inside.rows.items c.args.number c.put-row.result c.remove.new.self here c.put-row.ensures.value (drop_item c.args.item) c.remove.ensures.items)

pub returns-clause-room : goal.returns-clause-room
returns-clause-room c = λ n.
    let has = subst (λ (t : RowLists). 0 < spare_at t c.args.number) (sym c.self.view_is) c.requires in
    let here = room_within c.self.inside.rows.owned c.self.inside.rows.items c.args.number has in
    let fin = put_back c.self.inside.rows.items c.put-row.new.self.items c.put-none.new.self.items c.args.number _ c.remove.new.self
    c.put-row.ensures.items c.put-none.ensures.items in
    let owned = c.put-none.ensures.owned ∙ c.put-row.ensures.owned in
    subst (λ (t : RowLists). spare_at t n ≤ get_or (rooms c.put-none.new.self.owned c.put-none.new.self.items) n 0) c.self.view_is
    (subst₂ (λ (bs : List Bool) (xs : List Row). get_or (rooms c.self.inside.rows.owned c.self.inside.rows.items) n 0 ≤ get_or (rooms bs xs) n 0)
    (sym owned) (sym fin)
    (rooms_rise c.self.inside.rows.owned c.self.inside.rows.owned c.self.inside.rows.items (set c.self.inside.rows.items c.args.number c.remove.new.self)
    (λ k h. h) (spare_rises c.self.inside.rows.items c.args.number c.put-row.result c.remove.new.self here c.put-row.ensures.value c.remove.ensures.spare) n))
