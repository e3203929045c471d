-- Which rules stand above others, found from pairs by the numbers of their rules.
use Rattle.std.specs.Prelude.{◌≡◌, ℕ, Option, List, map, All, option_map}
use Rattle.dl_base.specs.Paths.{IsDistinct}
use Rattle.dl_lit.specs.declared.literal.Literal.{Literal}
use Rattle.dl_sup.specs.declared.link.Link.{Link}
use Rattle.dl_theory.specs.declared.rule.Pair.{Pair}
use Rattle.dl_theory.specs.Lists.{labels}
use Rattle.dl_rules.specs.Lines.{Line, IsThere}
use Rattle.dl_graph.specs.Named.{line_in}
use Rattle.dl_graph.specs.Numbers.{NetLists, IsNumbered, HasRule, rule_at}

-- the rules of each pair are there
abbrev pub HaveRules : List (Option Line) → List Link → Type 0
HaveRules lines links = All (λ l. IsThere lines l.upper × IsThere lines l.lower) links

-- the rules of a theory by the numbers of their literals; no two have one label
pub record AreRules (N : NetLists) (ls : List Literal) (lines : List (Option Line)) : Type 0 where
  pub names : N.names ≡ ls
  pub numbered : IsNumbered N
  pub distinct : IsDistinct (labels N.theory)
  pub are : lines ≡ map (option_map (line_in N.names)) N.rules

-- the labels of the rules with two numbers
abbrev pub pair_at : NetLists → Link → Pair
pair_at N l = record { upper = (rule_at N l.upper).label; lower = (rule_at N l.lower).label }

-- the pairs of a theory by the numbers of their rules
pub record ArePairs (N : NetLists) (links : List Link) : Type 0 where
  pub are : N.theory.pairs ≡ map (pair_at N) links
  pub there : All (λ l. HasRule N l.upper × HasRule N l.lower) links

-- the rules with two numbers are there, and are those of a pair
pub record IsPairOf (N : NetLists) (p : Pair) (upper lower : ℕ) : Type 0 where
  pub upper_there : HasRule N upper
  pub lower_there : HasRule N lower
  pub upper_label : (rule_at N upper).label ≡ p.upper
  pub lower_label : (rule_at N lower).label ≡ p.lower
