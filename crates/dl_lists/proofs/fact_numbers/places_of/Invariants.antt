use Rattle.std.proofs.Common.{ℕ, ◌<◌, take}
use Rattle.dl_pages.specs.Paged.{Owns}
use Rattle.dl_lists.specs.KeptFacts.{ArePlaced}
use Rattle.dl_lists.proofs.fact_numbers.places_of.Given as goal

abbrev pub invariant-loop-number : goal.invariant-loop-number
invariant-loop-number l = record {
  placed : ArePlaced (take l.number l.facts.items) l.width l.places.items;
  owned : (q : ℕ) → q < l.width → Owns l.places q;
}
