use Rattle.std.proofs.Common.{◌∙◌, false, set, ap}
use Rattle.std.proofs.lemmas.List.{map-set}
use Rattle.dl_fill.specs.Cells.{CellLists, flag_of, number_of}
use Rattle.dl_fill.proofs.Packed.{as_cells}
use Rattle.dl_fill.proofs.cells.Cells.wipe.Goals as goal

pub returns : goal.returns
returns c =
    as_cells _ _ _ _
    (map-set flag_of c.self.inside.words.items c.args.place 0 ∙ ap (λ (v : CellLists). set v.flags c.args.place false) c.self.view_is)
    (map-set number_of c.self.inside.words.items c.args.place 0 ∙ ap (λ (v : CellLists). set v.numbers c.args.place 0) c.self.view_is)
