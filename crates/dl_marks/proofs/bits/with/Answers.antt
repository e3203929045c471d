use Rattle.dl_marks.proofs.ByteLemmas.{bit_set, bit_cleared}
use Rattle.dl_marks.proofs.bits.with.Goals as goal

pub returns-then-value : goal.returns-then-value
returns-then-value c = λ t. rw (c.place.ensures.place, c.if-value.true) (bit_set c.args.byte c.args.tag t)

pub returns-else-value : goal.returns-else-value
returns-else-value c = λ t. rw (c.place.ensures.place, c.if-value.false) (bit_cleared c.args.byte c.args.tag t)
