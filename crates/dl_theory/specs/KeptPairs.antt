-- How the fields of a superiority hold its pairs.
use Rattle.dl_theory.specs.declared.superiority.Superiority.TheInside.{Inside}
use Rattle.dl_theory.specs.Pairs.{IsNumbered}

abbrev pub IsKept : Inside → Type 0
IsKept s = IsNumbered s.items.keys s.order s.pairs.items
