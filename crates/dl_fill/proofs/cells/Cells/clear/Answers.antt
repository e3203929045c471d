use Rattle.std.proofs.Common.{◌≡◌, ◌∙◌, ap, sym, arith, replicate, false, ℕ, Bool, List, length}
use Rattle.std.specs.Vec.{with_items}
use Rattle.std.proofs.Math.ListN.{length-map}
use Rattle.std.proofs.lemmas.List.{with_items_is}
use Rattle.dl_fill.specs.Cells.{CellLists, flag_of, flags_of, numbers_of}
use Rattle.dl_fill.proofs.Packed.{flags-replicate, numbers-replicate, as_cells}
use Rattle.dl_fill.proofs.cells.Cells.clear.Goals as goal

pub returns : goal.returns
returns c =
    let words = c.self.inside.words in
    let there : (with_items words c.fill.new.self).items ≡ c.fill.new.self =
    with_items_is words c.fill.new.self (omega (arith, c.fill.ensures.len, c.as_mut_slice.ensures.len)) in
    let fresh = there ∙ c.fill.ensures.after (λ y h. h) ∙ ap (λ (xs : List ℕ). replicate {A = ℕ} (length xs) 0) c.as_mut_slice.ensures.value in
    let size : length words.items ≡ length c.args.self.now.flags = sym (length-map words.items flag_of) ∙ ap (λ (v : CellLists). length v.flags) c.self.view_is in
    as_cells _ _ _ _
    (ap flags_of fresh ∙ flags-replicate (length words.items) ∙ ap (λ (n : ℕ). replicate {A = Bool} n false) size)
    (ap numbers_of fresh ∙ numbers-replicate (length words.items) ∙ ap (λ (n : ℕ). replicate {A = ℕ} n 0) size)
