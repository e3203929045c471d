-- How the fields of a numbered theory hold it.
use Rattle.dl_net.specs.declared.numbered.NumberedTheory.TheInside.{Inside}
use Rattle.dl_graph.specs.Numbers.{NetLists}
use Rattle.dl_graph.specs.Tables.{net_of}
use Rattle.dl_net.specs.Loading.{LoadedLists, IsLoading, tables_of}

abbrev pub lists_of : Inside → LoadedLists
lists_of a = record {
  names = a.names.literals;
  labels = a.labels.keys;
  order = a.order.items;
  pairs = a.pairs;
  marks = a.facts.items;
  lines = a.lines.items;
}

abbrev pub numbered_of : Inside → NetLists
numbered_of a = net_of (tables_of (lists_of a))

-- the rules with each head, with each literal in the body, and above others are found where the last pair is there
abbrev pub IsKeptNumbered : Inside → Type 0
IsKeptNumbered a = IsLoading (lists_of a)
