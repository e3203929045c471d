use Rattle.std.proofs.Common.{Option, ℕ, List, refl, subst, sym, arith}
use Rattle.dl_rows.specs.There.{HasNumber}
use Rattle.dl_lists.proofs.FactLemmas.{placed_below, kept_wider}
use Rattle.dl_lists.proofs.fact_numbers.FactNumbers.prepare_drop.Goals as goal

pub own_place-requires : goal.own_place-requires
own_place-requires c =
    placed_below c.self.inside.facts.items c.self.inside.width c.find_place.new.places c.args.literal c.in_ok-number.ensures.placed
    (c.self.invariant.within c.args.literal c.in_ok-number.number c.in_ok-number.ensures.number)

pub invariant_of-self-in_err-own_place : goal.invariant_of-self-in_err-own_place
invariant_of-self-in_err-own_place c =
    kept_wider c.self.inside _ c.self.invariant refl (omega arith) c.self.invariant.narrow
    (c.in_err-own_place.ensures.placed c.self.inside.facts.items c.self.inside.width c.in_ok-number.ensures.placed) refl tt

pub invariant_of-self-in_err-own : goal.invariant_of-self-in_err-own
invariant_of-self-in_err-own c =
    kept_wider c.self.inside _ c.self.invariant c.in_err-own.ensures.items (omega arith) c.self.invariant.narrow
    (c.in_ok-own_place.ensures.placed c.self.inside.facts.items c.self.inside.width c.in_ok-number.ensures.placed) refl tt

pub invariant_of-self-2 : goal.invariant_of-self-2
invariant_of-self-2 c =
    kept_wider c.self.inside _ c.self.invariant c.in_ok-own.ensures.items (omega arith) c.self.invariant.narrow
    (c.in_ok-own_place.ensures.placed c.self.inside.facts.items c.self.inside.width c.in_ok-number.ensures.placed) refl
    (record {
      there = subst (λ (xs : List (Option ℕ)). HasNumber xs c.args.literal c.in_ok-number.number) (sym c.in_ok-own.ensures.items)
          c.in_ok-number.ensures.number;
      fact = c.in_ok-own.ensures.here;
      place = c.in_ok-own_place.ensures.owned;
    })
