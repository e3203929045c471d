use Rattle.std.proofs.Common.{Option, ℕ, List, length, refl, ap, arith}
use Rattle.dl_lists.proofs.FactLemmas.{placed_below, kept_wider}
use Rattle.dl_lists.proofs.fact_numbers.FactNumbers.prepare.Goals as goal

pub invariant_of-self-in_err-widen_places : goal.invariant_of-self-in_err-widen_places
invariant_of-self-in_err-widen_places c =
    kept_wider c.self.inside _ c.self.invariant c.in_ok-reserve.ensures.items (omega arith) c.self.invariant.narrow
    (c.in_err-widen_places.ensures.kept c.self.inside.facts.items c.self.inside.width c.self.invariant.placed) refl tt

pub own_place-requires : goal.own_place-requires
own_place-requires c =
    placed_below c.self.inside.facts.items c.max-width.result c.widen_places.new.places c.args.literal
    (c.in_ok-widen_places.ensures.placed c.self.inside.facts.items c.self.inside.width c.self.invariant.placed)
    (omega (arith, c.requires, c.max-width.ensures))

pub invariant_of-self-in_err-own_place : goal.invariant_of-self-in_err-own_place
invariant_of-self-in_err-own_place c =
    kept_wider c.self.inside _ c.self.invariant c.in_ok-reserve.ensures.items (omega (arith, c.max-width.ensures))
    (omega (arith, c.max-width.ensures, c.if-names-gt-EMPTY.false, c.self.invariant.narrow))
    (c.in_err-own_place.ensures.placed c.self.inside.facts.items c.max-width.result
    (c.in_ok-widen_places.ensures.placed c.self.inside.facts.items c.self.inside.width c.self.invariant.placed)) refl tt

pub invariant_of-self-2 : goal.invariant_of-self-2
invariant_of-self-2 c =
    kept_wider c.self.inside _ c.self.invariant c.in_ok-reserve.ensures.items (omega (arith, c.max-width.ensures))
    (omega (arith, c.max-width.ensures, c.if-names-gt-EMPTY.false, c.self.invariant.narrow))
    (c.in_ok-own_place.ensures.placed c.self.inside.facts.items c.max-width.result
    (c.in_ok-widen_places.ensures.placed c.self.inside.facts.items c.self.inside.width c.self.invariant.placed)) refl
    (record {
      room = c.in_ok-reserve.ensures.room;
      few = omega (
        arith,
        c.if-len-ge-EMPTY.false,
        c.len.ensures,
        ap (λ (l : List (Option ℕ)). length l) c.in_ok-reserve.ensures.items,
      );
      wide = omega (arith, c.requires, c.max-width.ensures);
      owned = c.in_ok-own_place.ensures.owned;
    })
