-- The tables of numbers that a theory is kept in, and the theory that they stand for.
use Rattle.std.specs.Prelude.{◌≡◌, ℕ, ◌<◌, Bool, true, false, Option, None, List, [], ◌∷◌, map, get_or, option_map, length, All, Contains}
use Rattle.dl_lit.specs.declared.literal.Literal.{Literal}
use Rattle.dl_theory.specs.declared.rule.Rule.{Rule}
use Rattle.dl_theory.specs.declared.rule.Pair.{Pair}
use Rattle.dl_theory.specs.Lists.{TheoryLists, IsWellFormed}
use Rattle.dl_theory.specs.Pairs.{named}
use Rattle.dl_sup.specs.declared.link.Link.{Link}
use Rattle.dl_rows.specs.There.{there, HasNumber}
use Rattle.dl_rules.specs.Lines.{Line, IndexLists, IsThere}
use Rattle.dl_lists.specs.Last.{IsLast}
use Rattle.dl_names.specs.Paired.{IsPaired}
use Rattle.dl_graph.specs.Numbers.{NetLists, IsNumbered, no_literal, of_rule, lowers_row, uppers_row}
use Rattle.dl_graph.specs.Named.{HasLiterals, HasFacts, line_in}

-- ---- what numbers stand for

-- the literal with a number
abbrev pub literal_in : List Literal → ℕ → Literal
literal_in ls n = get_or ls n no_literal

-- the rule with a label and these numbers
abbrev pub rule_from : List Literal → List ℕ → Line → Rule
rule_from ls label l = record { label = label; kind = l.kind; body = map (literal_in ls) l.body; head = literal_in ls l.head }

-- the rules of these labels; where a rule has gone, there is none with its label
abbrev pub rules_from : List Literal → List (List ℕ) → List (Option Line) → List (Option Rule)
rules_from ls [] lines = []
rules_from ls (label ∷ labels) [] = []
rules_from ls (label ∷ labels) (l ∷ lines) = option_map (rule_from ls label) l ∷ rules_from ls labels lines

-- the numbers of literals, the labels of rules by number, the literals of facts, the rules, and the pairs
pub record TableLists : Type 0 where
  pub names : List Literal
  pub labels : List (List ℕ)
  pub facts : List (Option ℕ)
  pub pairs : List (Option Link)
  pub marks : List Bool
  pub index : IndexLists

abbrev pub facts_of : TableLists → List (Option Literal)
facts_of t = map (option_map (literal_in t.names)) t.facts

abbrev pub rules_of : TableLists → List (Option Rule)
rules_of t = rules_from t.names t.labels t.index.lines

abbrev pub pairs_of : TableLists → List (Option Pair)
pairs_of t = map (option_map (named t.labels)) t.pairs

abbrev pub theory_of : TableLists → TheoryLists
theory_of t = record { facts = there (facts_of t); rules = there (rules_of t); pairs = there (pairs_of t) }

-- the net that the tables stand for, of which no edit is prepared
abbrev pub net_of : TableLists → NetLists
net_of t = record {
  theory = theory_of t;
  facts = facts_of t;
  rules = rules_of t;
  pairs = pairs_of t;
  names = t.names;
  pending = None;
  frozen = false;
}

-- ---- what ties them together

-- the index holds the rules, and for each number those below its rule and those above it
pub record HasIndex (N : NetLists) (x : IndexLists) : Type 0 where
  pub lines : x.lines ≡ map (option_map (line_in N.names)) N.rules
  pub lowers : x.lowers ≡ map (of_rule (lowers_row N)) N.rules
  pub uppers : x.uppers ≡ map (of_rule (uppers_row N (λ _. true))) N.rules

-- the literals of the theory have numbers, and marks and index are those of the theory
pub record HasTables (N : NetLists) (marks : List Bool) (x : IndexLists) : Type 0 where
  pub facts_named : All (Contains N.names) N.theory.facts
  pub rules_named : All (HasLiterals N.names) N.theory.rules
  pub facts : HasFacts N.names N.theory.facts marks
  pub index : HasIndex N x

-- each number of a literal is that of a name, a rule that is there is the last with its label, and both rules of a pair are there
pub record AreTables (t : TableLists) : Type 0 where
  pub as_long : length t.labels ≡ length t.index.lines
  pub facts_within : (q n : ℕ) → HasNumber t.facts q n → q < length t.names
  pub formed : IsWellFormed (theory_of t)
  pub numbered : IsNumbered (net_of t)
  pub paired : IsPaired t.names
  pub tables : HasTables (net_of t) t.marks t.index
  pub latest : (n : ℕ) → IsThere t.index.lines n → IsLast t.labels (get_or t.labels n []) n
  pub joined : (l : Link) (n : ℕ) → HasNumber t.pairs l n → IsThere t.index.lines l.upper × IsThere t.index.lines l.lower
