use Rattle.std.proofs.Common.{◌∙◌, ℕ, false, get_or, set, sym, ap}
use Rattle.std.proofs.Math.Seq.{map-set_same}
use Rattle.std.proofs.lemmas.List.{map-set}
use Rattle.dl_fill.specs.Cells.{CellLists, flag_of, number_of, numbers_of}
use Rattle.dl_fill.proofs.Packed.{as_cells, flag_at, low_flag, low_number}
use Rattle.dl_fill.proofs.cells.Cells.put.Goals as goal

pub returns : goal.returns
returns c =
    let words = c.self.inside.words.items in
    as_cells _ _ _ _
    (map-set_same flag_of words c.args.place c.args.number 0
    (low_flag c.args.number c.requires.few ∙ sym (sym (flag_at words c.args.place) ∙ ap (λ (v : CellLists). get_or v.flags c.args.place false) c.self.view_is ∙ c.requires.free))
    ∙ ap (λ (v : CellLists). v.flags) c.self.view_is)
    (map-set number_of words c.args.place c.args.number
    ∙ ap (λ (n : ℕ). set (numbers_of words) c.args.place n) (low_number c.args.number c.requires.few)
    ∙ ap (λ (v : CellLists). set v.numbers c.args.place c.args.number) c.self.view_is)
