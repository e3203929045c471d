-- How the fields of lists on their way hold the lists of a theory.
use Rattle.dl_theory.specs.Lists.{TheoryLists}
use Rattle.dl_draw.specs.declared.lists.Lists.TheInside.{Inside}

abbrev pub lists_of : Inside → TheoryLists
lists_of l = record { facts = l.facts.items; rules = l.rules.items; pairs = l.pairs.items }
