use Rattle.std.proofs.Common.{length, ap, arith}
use Rattle.std.proofs.Math.ListN.{length-map}
use Rattle.dl_fill.specs.Cells.{CellLists, number_of}
use Rattle.dl_fill.proofs.cells.Cells.len.Goals as goal

pub returns-clause-numbers : goal.returns-clause-numbers
returns-clause-numbers c =
    omega (arith, c.len.ensures, length-map c.self.inside.words.items number_of, ap (λ (v : CellLists). length v.numbers) c.self.view_is)
