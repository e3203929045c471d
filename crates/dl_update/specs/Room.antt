-- Room for the fills of all families.
use Rattle.std.specs.Prelude.{ℕ}
use Rattle.dl_fill.specs.Families.{HasPlaces}
use Rattle.dl_definite.specs.Definite.{definite_table}
use Rattle.dl_block.specs.Block.{block_table}
use Rattle.dl_prop.specs.Propagation.{propagation_table}
use Rattle.dl_update.specs.declared.works.Works.{Works}

-- each fill has room for so many rules and names
pub record HasRoom (rules names : ℕ) (w : Works) : Type 0 where
  pub definite : HasPlaces definite_table rules names w.definite
  pub blocking : HasPlaces block_table rules names w.blocking
  pub pair : HasPlaces propagation_table rules names w.pair
