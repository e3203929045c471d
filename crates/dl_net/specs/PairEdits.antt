-- The rules of a pair.
use Rattle.std.specs.Prelude.{◌≡◌, List, Option}
use Rattle.dl_sup.specs.declared.link.Link.{Link}
use Rattle.dl_theory.specs.declared.rule.Pair.{Pair}
use Rattle.dl_theory.specs.Pairs.{named}
use Rattle.dl_rules.specs.Lines.{Line, IsThere}
use Rattle.dl_net.specs.declared.tables.Tables.{Tables}

-- both numbers have rules
abbrev pub HasRules : List (Option Line) → Link → Type 0
HasRules lines l = IsThere lines l.upper × IsThere lines l.lower

-- the rules at two numbers are there, and have the labels of a pair
pub record IsLinkOf (t : Tables) (l : Link) (p : Pair) : Type 0 where
  pub names : named t.labels.labels l ≡ p
  pub there : HasRules t.index.lines l
