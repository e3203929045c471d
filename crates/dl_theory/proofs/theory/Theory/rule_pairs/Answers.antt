use Rattle.std.proofs.Common.{ℕ, List, sym, subst}
use Rattle.std.specs.Prelude.{All}
use Rattle.dl_base.specs.Paths.{IsDistinct}
use Rattle.dl_theory.specs.Edits.{AreThere}
use Rattle.dl_theory.proofs.Numbers.{order_numbered}
use Rattle.dl_theory.proofs.theory.Theory.rule_pairs.Goals as goal

pub links-requires : goal.links-requires
links-requires c =
    subst (λ (ls : List (List ℕ)). All (AreThere ls) c.self.inside.pairs) (sym c.labels.ensures) c.self.invariant.pairs_label_rules

pub of-requires : goal.of-requires
of-requires c =
    let distinct : IsDistinct c.labels.result.now.keys =
    subst (λ (ls : List (List ℕ)). IsDistinct ls) (sym c.labels.ensures) c.self.invariant.labels_distinct in
    order_numbered c.labels.result.now.keys c.in_ok-links.links.items c.self.inside.pairs
    (record { distinct = distinct; within = c.in_ok-links.ensures.within; names = c.in_ok-links.ensures.named })
    c.self.invariant.pairs_distinct c.self.invariant.acyclic
