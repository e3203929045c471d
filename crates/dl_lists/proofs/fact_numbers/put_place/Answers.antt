use Rattle.std.proofs.Common.{ℕ, Option, Some, List, [], ◌∷◌, ◌++◌, set, subst, sym}
use Rattle.dl_pages.specs.Paged.{PagedItems}
use Rattle.dl_lists.specs.KeptFacts.{ArePlaced, ArePlacedIn, OwnsPlace}
use Rattle.dl_lists.proofs.FactLemmas.{placed_put}
use Rattle.dl_lists.proofs.fact_numbers.put_place.Goals as goal

pub write-requires-clause-owned : goal.write-requires-clause-owned
write-requires-clause-owned c = subst (λ (o : Option (PagedItems (Option ℕ))). OwnsPlace o c.args.literal) c.in-Some.is c.requires.owned

pub returns-in-Some : goal.returns-in-Some
returns-in-Some c = λ facts w long lt new h.
    let ps : List (Option ℕ) = c.in-Some.places.items in
    let q : ℕ = c.args.literal in
    subst (λ (l : List (Option ℕ)). ArePlaced (facts ++ Some q ∷ []) w l) (sym c.write.ensures.items)
    (subst (λ (n : ℕ). ArePlaced (facts ++ Some q ∷ []) w (set ps q (Some n))) long
    (placed_put facts w ps q (subst (λ (o : Option (PagedItems (Option ℕ))). ArePlacedIn facts w o) c.in-Some.is h) lt new))
