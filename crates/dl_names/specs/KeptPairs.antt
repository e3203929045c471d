-- How pairs stand in two parts.
use Rattle.std.specs.Prelude.{◌≤◌, ◌^◌, ◌++◌, Option, None, Some, List, [], length}
use Rattle.std.specs.Arc.{arc_value}
use Rattle.std.specs.declared.alloc.Global.{Global}
use Rattle.std.specs.declared.sync.Arc.{Arc}
use Rattle.dl_lit.specs.declared.literal.Literal.{Literal}
use Rattle.dl_names.specs.declared.shared_pairs.SharedPairs.TheInside.{Inside}

-- the pairs that copies share
abbrev pub front : Option (Arc (List Literal) Global) → List Literal
front None = []
front (Some pairs) = arc_value pairs

-- and behind them those that came later
abbrev pub pairs_in : Inside → List Literal
pairs_in s = front s.shared ++ s.later

-- their literals have numbers of 32 bits
pub record IsKeptPairs (s : Inside) : Type 0 where
  pub few : length (pairs_in s) ≤ 2 ^ 31
