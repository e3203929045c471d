-- The tables of a theory that is being loaded: no number of a rule is empty, and which rules stand below others is not known yet.
use Rattle.std.specs.Prelude.{◌≡◌, ℕ, ◌<◌, Bool, Option, Some, List, length, map, All}
use Rattle.dl_lit.specs.declared.literal.Literal.{Literal}
use Rattle.dl_sup.specs.declared.link.Link.{Link}
use Rattle.dl_theory.specs.Lists.{TheoryLists, IsWellFormed}
use Rattle.dl_theory.specs.Pairs.{IsWithin}
use Rattle.dl_rules.specs.Lines.{Line, no_index, IsThereWithin}
use Rattle.dl_graph.specs.Named.{HasFacts}
use Rattle.dl_graph.specs.Tables.{TableLists, theory_of}

-- the numbers of literals, the labels of rules by number, the facts and the pairs by numbers, by number of a literal whether it is a
-- fact, and the rules
pub record LoadedLists : Type 0 where
  pub names : List Literal
  pub labels : List (List ℕ)
  pub order : List ℕ
  pub pairs : List Link
  pub marks : List Bool
  pub lines : List (Option Line)

abbrev pub tables_of : LoadedLists → TableLists
tables_of a = record {
  names = a.names;
  labels = a.labels;
  facts = map Some a.order;
  pairs = map Some a.pairs;
  marks = a.marks;
  index = record no_index { lines = a.lines };
}

abbrev pub theory_in : LoadedLists → TheoryLists
theory_in a = theory_of (tables_of a)

-- each rule is there, its numbers and those of the facts are those of literals, pairs are those of rules, and marks are those of the facts
pub record IsLoading (a : LoadedLists) : Type 0 where
  pub formed : IsWellFormed (theory_in a)
  pub as_long : length a.labels ≡ length a.lines
  pub lines : All (IsThereWithin (length a.names)) a.lines
  pub order : All (λ n. n < length a.names) a.order
  pub pairs : All (IsWithin a.labels) a.pairs
  pub marks : HasFacts a.names (theory_in a).facts a.marks
