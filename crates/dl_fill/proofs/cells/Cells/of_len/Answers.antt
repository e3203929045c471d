use Rattle.std.proofs.Common.{ap, ◌∙◌}
use Rattle.dl_fill.specs.Cells.{flags_of, numbers_of}
use Rattle.dl_fill.proofs.Packed.{flags-replicate, numbers-replicate, as_cells}
use Rattle.dl_fill.proofs.cells.Cells.of_len.Goals as goal

pub returns : goal.returns
returns c =
    let fresh = c.in_ok-words.ensures.items_if_clones_equal (λ y h. h) in
    as_cells _ _ _ _ (ap flags_of fresh ∙ flags-replicate c.args.len) (ap numbers_of fresh ∙ numbers-replicate c.args.len)
