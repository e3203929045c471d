-- Pairs that are added at once.
use Rattle.std.specs.Prelude.{◌≡◌, ℕ, ◌≤◌, List, ◌++◌, take, length}
use Rattle.dl_sup.specs.declared.link.Link.{Link}
use Rattle.dl_sup.specs.Links.{IsOrder}

-- an order with more pairs behind, as an order
pub record IsLoaded (base links : List Link) (loaded : List Link) : Type 0 where
  pub added : loaded ≡ base ++ links
  pub order : IsOrder loaded

-- the same with the first of the pairs
pub record HasFront (base links loaded : List Link) (count : ℕ) : Type 0 where
  pub within : count ≤ length links
  pub front : IsLoaded base (take count links) loaded
