use Rattle.std.proofs.Common.{List, length, refl, ap, arith}
use Rattle.dl_lists.specs.declared.pair_slot.PairSlot.{PairSlot}
use Rattle.dl_lists.specs.KeptPairs.{pairs_in}
use Rattle.dl_lists.proofs.PairLemmas.{kept_same}
use Rattle.dl_lists.proofs.pair_numbers.PairNumbers.prepare.Goals as goal

pub invariant_of-self-in_err-reserve_places : goal.invariant_of-self-in_err-reserve_places
invariant_of-self-in_err-reserve_places c =
    kept_same c.self.inside _ c.self.invariant c.in_ok-reserve.ensures.items
    (c.in_err-reserve_places.ensures.placed (pairs_in c.self.inside.pairs.items) c.self.invariant.placed) refl tt

pub invariant_of-self-2 : goal.invariant_of-self-2
invariant_of-self-2 c =
    kept_same c.self.inside _ c.self.invariant c.in_ok-reserve.ensures.items
    (c.in_ok-reserve_places.ensures.placed (pairs_in c.self.inside.pairs.items) c.self.invariant.placed) refl
    (record {
      room = c.in_ok-reserve.ensures.room;
      few = omega (
        arith,
        c.if-len-ge-EMPTY.false,
        c.len.ensures,
        ap (λ (l : List PairSlot). length l) c.in_ok-reserve.ensures.items,
      );
      upper = c.if-pair-ge-EMPTY.false;
      lower = c.if-pair-ge-EMPTY-2.false;
      rows = c.in_ok-reserve_places.ensures.room;
    })
