use Rattle.std.proofs.Common.{ℕ, List, ◌∙◌, sym, subst}
use Rattle.std.specs.Prelude.{Option, IfSome}
use Rattle.dl_graph.specs.Numbers.{NetLists}
use Rattle.dl_conclusions.specs.Orders.{IsOrder}
use Rattle.dl_conclusions.proofs.Concluding.{order_read}
use Rattle.dl_edition.specs.declared.listing.Listing.{Listing}
use Rattle.dl_edition.proofs.edition.Edition.conclusions.Goals as goal

pub ordered_conclusions-answer-requires-clause-order : goal.ordered_conclusions-answer-requires-clause-order
ordered_conclusions-answer-requires-clause-order c =
    let order = c.in-Some-get.listing.order.items in
    let of_tag : IsOrder c.in-Some.claim.tag order =
    subst (λ (o : Option Listing). IfSome o (λ l. IsOrder c.in-Some.claim.tag l.order.items)) c.in-Some-get.is c.get.ensures.1 in
    let of_net = subst (λ (N : NetLists). IsOrder N order) (c.in-Some.ensures.tag ∙ c.self.invariant.listing) of_tag in
    subst (λ (numbers : List ℕ). IsOrder c.graph.result numbers) (sym c.as_slice.ensures.value)
    ((order_read c.self.inside.net c.graph.result order c.graph.ensures).1 of_net)
