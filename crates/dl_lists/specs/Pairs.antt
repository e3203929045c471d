-- Pairs of rules by number.
use Rattle.std.specs.Prelude.{ℕ, Option, None, List, []}
use Rattle.dl_sup.specs.declared.link.Link.{Link}

-- the pair of each number that has one; the pair for which there is memory; the pair that may go; and the rule whose pairs may go
pub record PairLists : Type 0 where
  pub items : List (Option Link)
  pub ready : Option Link
  pub leaving : Option Link
  pub clearing : Option ℕ

abbrev pub no_pairs : PairLists
no_pairs = record { items = []; ready = None; leaving = None; clearing = None }
