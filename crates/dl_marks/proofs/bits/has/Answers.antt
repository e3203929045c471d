use Rattle.std.proofs.Common.{nat_eq, ap, sym, ◌∙◌}
use Rattle.std.proofs.lemmas.Nat.Bits.{shr_and_one}
use Rattle.dl_marks.specs.Bytes.{has_bit}
use Rattle.dl_marks.proofs.ByteLemmas.{mark_bit}
use Rattle.dl_marks.proofs.bits.has.Goals as goal

pub returns : goal.returns
returns c =
    ap (λ n. nat_eq n 1) (shr_and_one c.args.byte c.place.result)
    ∙ ap (has_bit c.args.byte) c.place.ensures.place
    ∙ sym (mark_bit c.args.byte c.args.tag)
