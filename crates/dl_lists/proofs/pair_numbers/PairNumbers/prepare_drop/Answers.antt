use Rattle.std.proofs.Common.{List, ℕ, Option, refl, sym, subst}
use Rattle.std.specs.Prelude.{Contains, IfSome}
use Rattle.dl_sup.specs.declared.link.Link.{Link}
use Rattle.dl_lists.specs.Pairs.{PairLists}
use Rattle.dl_rows.proofs.There.{has_there}
use Rattle.dl_lists.specs.declared.pair_slot.PairSlot.{PairSlot}
use Rattle.dl_lists.specs.KeptPairs.{pairs_in}
use Rattle.dl_rows.specs.There.{there, HasNumber}
use Rattle.dl_lists.proofs.PairLemmas.{kept_same}
use Rattle.dl_lists.proofs.pair_numbers.PairNumbers.prepare_drop.Goals as goal

pub invariant_of-self-in_err-open_places-in-Some : goal.invariant_of-self-in_err-open_places-in-Some
invariant_of-self-in_err-open_places-in-Some c =
    kept_same c.self.inside _ c.self.invariant refl
    (c.in_err-open_places-in-Some.ensures.placed (pairs_in c.self.inside.pairs.items) c.in_ok-find_pair.ensures.placed) refl tt

pub invariant_of-self-in_err-own-in-Some : goal.invariant_of-self-in_err-own-in-Some
invariant_of-self-in_err-own-in-Some c =
    kept_same c.self.inside _ c.self.invariant c.in_err-own-in-Some.ensures.items
    (c.in_ok-open_places-in-Some.ensures.placed (pairs_in c.self.inside.pairs.items) c.in_ok-find_pair.ensures.placed) refl tt

pub invariant_of-self-in-Some : goal.invariant_of-self-in-Some
invariant_of-self-in-Some c =
    let items : List (Option Link) = pairs_in c.self.inside.pairs.items in
    let has : HasNumber items c.args.pair c.in-Some.number =
    subst (λ (o : Option ℕ). IfSome o (HasNumber items c.args.pair)) c.in-Some.is c.in_ok-find_pair.ensures.found in
    kept_same c.self.inside _ c.self.invariant c.in_ok-own-in-Some.ensures.items
    (c.in_ok-open_places-in-Some.ensures.placed items c.in_ok-find_pair.ensures.placed) refl
    (record {
      there = subst (λ (xs : List PairSlot). HasNumber (pairs_in xs) c.args.pair c.in-Some.number) (sym c.in_ok-own-in-Some.ensures.items) has;
      pair = c.in_ok-own-in-Some.ensures.here;
      rows = c.in_ok-open_places-in-Some.ensures.opened;
    })

pub returns-in_ok-own-in-Some-clause-there : goal.returns-in_ok-own-in-Some-clause-there
returns-in_ok-own-in-Some-clause-there c =
    let items : List (Option Link) = pairs_in c.self.inside.pairs.items in
    let has : HasNumber items c.args.pair c.in-Some.number =
    subst (λ (o : Option ℕ). IfSome o (HasNumber items c.args.pair)) c.in-Some.is c.in_ok-find_pair.ensures.found in (
      λ yes. subst (λ (v : PairLists). Contains (there v.items) c.args.pair) c.self.view_is (has_there items c.args.pair c.in-Some.number has),
      λ is. refl,
    )
