use Rattle.std.proofs.Common.{◌≡◌, ◌∙◌, ◌<◌, List, length, ap, sym, subst}
use Rattle.std.specs.Prelude.{All}
use Rattle.std.specs.List.{flat_map}
use Rattle.std.proofs.lemmas.Result.{IfOk-weaker}
use Rattle.dl_conclusions.specs.declared.placed.Placed.{Placed}
use Rattle.dl_conclusions.specs.Orders.{IsOrder}
use Rattle.dl_conclusions.specs.Placing.{pair_numbers}
use Rattle.dl_conclusions.proofs.Placing.{numbers_within, ordered}
use Rattle.dl_conclusions.proofs.order.order_of.Goals as goal

pub numbers_of-requires : goal.numbers_of-requires
numbers_of-requires c =
    let N = c.args.net.now in
    subst (λ (ps : List Placed). All (λ p. p.number < length N.names) ps) (sym c.as_slice.ensures.value)
    (numbers_within N c.in_ok-list.list.items c.sort_unstable.new.self.items c.names-count.ensures.numbered c.in_ok-list.ensures
    c.sort_unstable.ensures.permutation c.sort_unstable.ensures.sorted)

pub returns : goal.returns
returns c =
    let N = c.args.net.now in
    IfOk-weaker c.numbers_of.result (λ numbers. numbers.items ≡ flat_map (pair_numbers N) c.as_slice.result.now) (λ order. IsOrder N order.items)
    (λ order are.
    ordered N c.in_ok-list.list.items c.sort_unstable.new.self.items c.names-count.ensures.numbered c.in_ok-list.ensures c.sort_unstable.ensures.permutation
    c.sort_unstable.ensures.sorted order.items (are ∙ ap (flat_map (pair_numbers N)) c.as_slice.ensures.value)) c.numbers_of.ensures
