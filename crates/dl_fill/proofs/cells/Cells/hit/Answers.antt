use Rattle.std.proofs.Common.{◌≡◌, ◌<◌, ◌∙◌, length, get_or, sym, ap, arith}
use Rattle.std.proofs.Math.ListN.{length-map}
use Rattle.std.proofs.lemmas.List.{get_or_default}
use Rattle.dl_fill.specs.Cells.{CellLists, flag_of, counted_down}
use Rattle.dl_fill.proofs.Packed.{counted}
use Rattle.dl_fill.proofs.cells.Cells.hit.Goals as goal

pub returns-clause-lower : goal.returns-clause-lower
returns-clause-lower c =
    let words = c.self.inside.words.items in
    let lt : c.args.place < length words = omega (arith, c.requires, length-map words flag_of, ap (λ (v : CellLists). length v.flags) c.self.view_is) in
    let word : c.index-word.result.now ≡ get_or words c.args.place 0 =
    c.index-word.ensures ∙ get_or_default words c.args.place c.index-word.result.now 0 lt in
    counted words c.args.place c.index-word.result.now (sym word) c.lowered.result c.lowered.ensures.high c.lowered.ensures.flag c.lowered.ensures.number
    ∙ ap (λ (v : CellLists). counted_down v c.args.place) c.self.view_is
