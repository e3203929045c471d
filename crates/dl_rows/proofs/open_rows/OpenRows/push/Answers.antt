use Rattle.std.proofs.Common.{◌≡◌, ℕ, ◌<◌, Bool, false, List, [], ◌∷◌, ◌++◌, get_or, set, map, sym, ap, subst, ◌∙◌}
use Rattle.dl_rows.specs.Tables.{RowLists, spare_at, list_at}
use Rattle.dl_rows.specs.OpenView.{rooms}
use Rattle.dl_rows.specs.declared.row.Row.{Row}
use Rattle.dl_rows.proofs.TableLemmas.{room_owned, room_within, room_of, rooms_other, list_written, put_back}
use Rattle.dl_rows.proofs.open_rows.OpenRows.push.Goals as goal

pub put-row-requires : goal.put-row-requires
put-row-requires c =
    room_owned c.self.inside.rows.owned c.self.inside.rows.items c.args.number
    (subst (λ (t : RowLists). 0 < spare_at t c.args.number) (sym c.self.view_is) c.requires)

pub push_reserved-requires : goal.push_reserved-requires
push_reserved-requires c =
    let has = subst (λ (t : RowLists). 0 < spare_at t c.args.number) (sym c.self.view_is) c.requires in
    let here = room_within c.self.inside.rows.owned c.self.inside.rows.items c.args.number has in
    let mine = room_owned c.self.inside.rows.owned c.self.inside.rows.items c.args.number has in
    subst (λ k. 0 < k)
    (room_of c.self.inside.rows.owned c.self.inside.rows.items c.args.number c.put-row.result mine here c.put-row.ensures.value) has

pub put-none-requires : goal.put-none-requires
put-none-requires c =
    let has = subst (λ (t : RowLists). 0 < spare_at t c.args.number) (sym c.self.view_is) c.requires in
    let mine = room_owned c.self.inside.rows.owned c.self.inside.rows.items c.args.number has in
    ap (λ (bs : List Bool). get_or bs c.args.number false) c.put-row.ensures.owned ∙ mine

pub returns-clause-lists : goal.returns-clause-lists
returns-clause-lists c =
    let has = subst (λ (t : RowLists). 0 < spare_at t c.args.number) (sym c.self.view_is) c.requires in
    let here = room_within c.self.inside.rows.owned c.self.inside.rows.items c.args.number has in
    let fin = put_back c.self.inside.rows.items c.put-row.new.self.items c.put-none.new.self.items c.args.number _ c.push_reserved.new.self
    c.put-row.ensures.items c.put-none.ensures.items in
    subst (λ (t : RowLists). map (λ v. v.items) c.put-none.new.self.items ≡ set t.lists c.args.number (list_at t c.args.number ++ c.args.item ∷ [])) c.self.view_is
    (ap (map (λ v. v.items)) fin
    ∙ list_written c.self.inside.rows.items c.args.number c.put-row.result c.push_reserved.new.self here c.put-row.ensures.value (λ (xs : List ℕ). xs ++ c.args.item ∷ []) c.push_reserved.ensures.items)

pub returns-clause-room : goal.returns-clause-room
returns-clause-room c = λ n differs.
    let has = subst (λ (t : RowLists). 0 < spare_at t c.args.number) (sym c.self.view_is) c.requires in
    let here = room_within c.self.inside.rows.owned c.self.inside.rows.items c.args.number has in
    let fin = put_back c.self.inside.rows.items c.put-row.new.self.items c.put-none.new.self.items c.args.number _ c.push_reserved.new.self
    c.put-row.ensures.items c.put-none.ensures.items in
    let owned = c.put-none.ensures.owned ∙ c.put-row.ensures.owned in
    subst (λ (t : RowLists). get_or (rooms c.put-none.new.self.owned c.put-none.new.self.items) n 0 ≡ spare_at t n) c.self.view_is
    (ap (λ (bs : List Bool). get_or (rooms bs c.put-none.new.self.items) n 0) owned
    ∙ ap (λ (xs : List Row). get_or (rooms c.self.inside.rows.owned xs) n 0) fin
    ∙ rooms_other c.self.inside.rows.items c.args.number c.put-row.result c.push_reserved.new.self here c.put-row.ensures.value c.self.inside.rows.owned n differs)
