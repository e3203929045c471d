use Rattle.std.proofs.Common.{inl, inr}
use Rattle.dl_graph.specs.Numbers.{attackers_row, heads, back, literal_at}
use Rattle.dl_graph.specs.declared.link.Link.TheVariants.{Uses}
use Rattle.dl_derive.specs.Back.{Is, FromRow, RestsAt}
use Rattle.dl_derive.proofs.Gaining.{gains_then}
use Rattle.dl_derive.proofs.back.put_next.Goals as goal

pub returns : goal.returns
returns c =
    gains_then (FromRow Is (attackers_row c.args.net.now (literal_at c.args.net.now c.args.number)))
    (FromRow (λ r. FromRow Is (back c.args.net.now Uses r)) (heads c.args.net.now c.args.number)) (RestsAt c.args.net.now c.args.number)
    c.args.found.now c.put_attackers.new.found c.put_rules.new.found (λ n x. inl x) (λ n y. inr y) (λ n z. z) c.in_ok-put_attackers.ensures c.in_ok-put_rules.ensures
