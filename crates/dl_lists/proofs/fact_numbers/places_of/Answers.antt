use Rattle.std.proofs.Common.{ℕ, ◌+◌, ◌<◌, Option, List, length, take, subst, sym, ◌∙◌, arith}
use Rattle.dl_pages.specs.Paged.{PagedItems, Owns}
use Rattle.dl_rows.specs.There.{HasNumber}
use Rattle.dl_lists.specs.KeptFacts.{ArePlaced}
use Rattle.dl_lists.proofs.FactLemmas.{front_some, front_none}
use Rattle.dl_lists.proofs.fact_numbers.places_of.Goals as goal
use Rattle.dl_lists.proofs.fact_numbers.places_of.Goals.{in-None, in-Some}

pub write-requires-clause-owned : goal.write-requires-clause-owned
write-requires-clause-owned c =
    c.loop-number.invariant.owned c.in-Some.literal (c.requires.within c.in-Some.literal c.loop-number.number (sym c.at.ensures ∙ c.in-Some.is))

pub loop-number-preserved : goal.loop-number-preserved
loop-number-preserved c =
    let xs : List (Option ℕ) = c.args.facts.now.items in
    let n : ℕ = c.loop-number.number in
    let w : ℕ = c.args.width in
    let ps : List (Option ℕ) = c.loop-number.places.items in
    let lt : n < length xs = omega (arith, c.loop-number-test.true, c.len-number-end.ensures) in
    elim c.match-at.branch [
      | in-None v ↦
          record {
            placed = subst (λ (p : PagedItems (Option ℕ)). ArePlaced (take (n + 1) xs) w p.items) (sym v.places-is)
                (front_none xs n w ps lt c.loop-number.invariant.placed (sym c.at.ensures ∙ v.in-None.is));
            owned = subst (λ (p : PagedItems (Option ℕ)). (q : ℕ) → q < w → Owns p q) (sym v.places-is) c.loop-number.invariant.owned;
          }
      | in-Some v ↦
          let at : HasNumber xs v.in-Some.literal n = sym c.at.ensures ∙ v.in-Some.is in
          record {
            placed = subst (λ (p : PagedItems (Option ℕ)). ArePlaced (take (n + 1) xs) w p.items) (sym v.places-is)
                (subst (λ (l : List (Option ℕ)). ArePlaced (take (n + 1) xs) w l) (sym v.write.ensures.items)
                (front_some xs n w ps lt c.loop-number.invariant.placed v.in-Some.literal c.requires.once
                (c.requires.within v.in-Some.literal n at) at));
            owned = subst (λ (p : PagedItems (Option ℕ)). (q : ℕ) → q < w → Owns p q) (sym v.places-is)
                (λ q below. rw v.write.ensures.owned (c.loop-number.invariant.owned q below));
          }
    ]
