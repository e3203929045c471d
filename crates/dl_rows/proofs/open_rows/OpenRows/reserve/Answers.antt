use Rattle.std.proofs.Common.{◌<◌, Bool, false, List, get_or, set, map, length, sym, ap, subst, ◌∙◌}
use Rattle.std.proofs.Math.ListN.{length-map}
use Rattle.std.proofs.lemmas.Result.{on_ok_weaker}
use Rattle.dl_rows.specs.Tables.{RowLists, KeepsLists}
use Rattle.dl_rows.specs.OpenView.{rooms}
use Rattle.dl_rows.specs.declared.row.Row.{Row}
use Rattle.dl_rows.proofs.TableLemmas.{kept_lists, room_here, put_back}
use Rattle.dl_rows.proofs.open_rows.OpenRows.reserve.Goals as goal

pub returns-clause-kept : goal.returns-clause-kept
returns-clause-kept c =
    let here : c.args.number < length c.self.inside.rows.items =
    subst (λ k. c.args.number < k) (length-map c.self.inside.rows.items (λ v. v.items))
    (subst (λ (t : RowLists). c.args.number < length t.lists) (sym c.self.view_is) c.requires) in
    let back = put_back c.own.new.self.items c.put-row.new.self.items c.put-none.new.self.items c.args.number _ c.reserve-reserved.new.self
    c.put-row.ensures.items c.put-none.ensures.items in
    let fin = back ∙ ap (λ (xs : List Row). set xs c.args.number c.reserve-reserved.new.self) c.own.ensures.items in
    let read = c.put-row.ensures.value ∙ ap (λ (xs : List Row). get_or xs c.args.number c.put-row.result) c.own.ensures.items in
    subst (λ (t : RowLists). KeepsLists t (record { lists = map (λ v. v.items) c.put-none.new.self.items; spare = rooms c.put-none.new.self.owned c.put-none.new.self.items })) c.self.view_is
    (subst (λ (xs : List Row). KeepsLists (record { lists = map (λ v. v.items) c.self.inside.rows.items; spare = rooms c.self.inside.rows.owned c.self.inside.rows.items })
    (record { lists = map (λ v. v.items) xs; spare = rooms c.put-none.new.self.owned xs })) (sym fin)
    (kept_lists c.self.inside.rows.items c.args.number c.put-row.result c.reserve-reserved.new.self here read c.self.inside.rows.owned c.put-none.new.self.owned
    (λ n h. ap (λ (bs : List Bool). get_or bs n false) (c.put-none.ensures.owned ∙ c.put-row.ensures.owned) ∙ c.own.ensures.owned n h)
    c.reserve-reserved.ensures.items c.reserve-reserved.ensures.more))

pub returns-clause-room : goal.returns-clause-room
returns-clause-room c =
    let here : c.args.number < length c.self.inside.rows.items =
    subst (λ k. c.args.number < k) (length-map c.self.inside.rows.items (λ v. v.items))
    (subst (λ (t : RowLists). c.args.number < length t.lists) (sym c.self.view_is) c.requires) in
    let back = put_back c.own.new.self.items c.put-row.new.self.items c.put-none.new.self.items c.args.number _ c.reserve-reserved.new.self
    c.put-row.ensures.items c.put-none.ensures.items in
    let fin = back ∙ ap (λ (xs : List Row). set xs c.args.number c.reserve-reserved.new.self) c.own.ensures.items in
    let read = c.put-row.ensures.value ∙ ap (λ (xs : List Row). get_or xs c.args.number c.put-row.result) c.own.ensures.items in
    let mine = ap (λ (bs : List Bool). get_or bs c.args.number false) (c.put-none.ensures.owned ∙ c.put-row.ensures.owned) ∙ c.in_ok-own.ensures.here in
    on_ok_weaker c.reserve-reserved.result
    (λ some. subst (λ k. 0 < k)
    (sym (ap (λ (xs : List Row). get_or (rooms c.put-none.new.self.owned xs) c.args.number 0) fin
    ∙ room_here c.self.inside.rows.items c.args.number c.put-row.result c.reserve-reserved.new.self here read c.put-none.new.self.owned mine)) some)
    c.reserve-reserved.ensures.room
