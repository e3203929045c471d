-- How the fields of a graph, and of a borrowed rule, hold what they stand for.
use Rattle.std.specs.Prelude.{length}
use Rattle.dl_theory.specs.declared.rule.Rule.{Rule}
use Rattle.dl_rules.specs.Lines.{IsThere, IsWithin, line_at}
use Rattle.dl_graph.specs.declared.graph.Graph.TheInside.{Inside}
use Rattle.dl_graph.specs.declared.rule_ref.RuleRef.TheInside as ref
use Rattle.dl_graph.specs.Numbers.{NetLists}
use Rattle.dl_graph.specs.Tables.{TableLists, rule_from, net_of, AreTables}

abbrev pub tables_of : Inside → TableLists
tables_of a = record {
  names = a.names.now.literals;
  labels = a.labels.now.labels;
  facts = a.facts.now.items;
  pairs = a.pairs.now.items;
  marks = a.marks.now.items;
  index = a.index.now;
}

abbrev pub graph_of : Inside → NetLists
graph_of a = net_of (tables_of a)

abbrev pub IsKeptGraph : Inside → Type 0
IsKeptGraph a = AreTables (tables_of a)

-- the rule that is borrowed
abbrev pub rule_of : ref.Inside → Rule
rule_of r = rule_from r.names.now.literals r.label.now (line_at r.index.now.lines r.number)

-- it is there, and its numbers are those of names
pub record IsKeptRule (r : ref.Inside) : Type 0 where
  pub there : IsThere r.index.now.lines r.number
  pub within : IsWithin (length r.names.now.literals) (line_at r.index.now.lines r.number)
