-- How the fields of the names hold their literals.
use Rattle.dl_lit.specs.declared.names.Names.TheInside.{Inside}
use Rattle.dl_base.specs.Paths.{IsDistinct}
use Rattle.dl_lit.specs.Names.{Numbering}

abbrev pub numbering_of : Inside → Numbering
numbering_of n = record { literals = n.literals.keys; frozen = n.frozen }

abbrev pub IsKeptNames : Inside → Type 0
IsKeptNames n = IsDistinct n.literals.keys
