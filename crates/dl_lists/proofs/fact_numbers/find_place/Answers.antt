use Rattle.std.proofs.Common.{ℕ, Option, ap, subst}
use Rattle.std.specs.Prelude.{is_some}
use Rattle.dl_pages.specs.Paged.{PagedItems}
use Rattle.dl_rows.proofs.There.{there_has}
use Rattle.dl_lists.specs.KeptFacts.{ArePlaced, ArePlacedIn}
use Rattle.dl_lists.proofs.fact_numbers.find_place.Goals as goal

pub number_at-requires : goal.number_at-requires
number_at-requires c =
    let placed : ArePlaced c.args.facts.now.items c.args.width c.in-Some.places.items =
    subst (λ (o : Option (PagedItems (Option ℕ))). ArePlacedIn c.args.facts.now.items c.args.width o) c.in-Some.is c.requires.placed in
    let has = there_has c.args.facts.now.items c.args.literal c.requires.there in
    ap is_some (placed.all c.args.literal has.0 has.1)

pub number_at-number-requires : goal.number_at-number-requires
number_at-number-requires c =
    let has = there_has c.args.facts.now.items c.args.literal c.requires.there in
    ap is_some (c.in_ok-made-in-None.ensures.all c.args.literal has.0 has.1)

pub returns-in-Some-clause-number : goal.returns-in-Some-clause-number
returns-in-Some-clause-number c =
    let placed : ArePlaced c.args.facts.now.items c.args.width c.in-Some.places.items =
    subst (λ (o : Option (PagedItems (Option ℕ))). ArePlacedIn c.args.facts.now.items c.args.width o) c.in-Some.is c.requires.placed in
    placed.right c.args.literal c.number_at.result c.number_at.ensures
