use Rattle.std.proofs.Common.{List, ℕ, [], ◌∷◌, ◌++◌, ap, sym, ◌∙◌, arith}
use Rattle.dl_lists.proofs.EntryLemmas.{range_more}
use Rattle.dl_lists.proofs.entries.each_itself.Goals as goal

pub loop-number-preserved : goal.loop-number-preserved
loop-number-preserved c = record {
  items = c.push.ensures.items ∙ ap (λ (l : List ℕ). l ++ c.loop-number.number ∷ []) c.loop-number.invariant.items
      ∙ sym (range_more c.loop-number.number);
  room = omega (arith, c.push.ensures.spare, c.loop-number.invariant.room);
}
