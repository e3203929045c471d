-- How the fields of the names hold their literals.
use Rattle.std.specs.Prelude.{false}
use Rattle.dl_base.specs.Paths.{IsDistinct}
use Rattle.dl_lit.specs.Names.{Numbering}
use Rattle.dl_names.specs.declared.paired_names.PairedNames.TheInside.{Inside}
use Rattle.dl_names.specs.Pairs.{pairs_of}

abbrev pub numbering_of : Inside → Numbering
numbering_of n = record { literals = pairs_of n.pairs; frozen = false }

pub record IsKeptNames (n : Inside) : Type 0 where
  pub distinct : IsDistinct (pairs_of n.pairs)
