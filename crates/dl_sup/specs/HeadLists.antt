-- A number of each item: of small items in a plain list, of other ones as pairs.
use Rattle.std.specs.Prelude.{ℕ, List, [], ◌==◌, get_or}
use Rattle.std.specs.Option.{unwrap_or}
use Rattle.std.specs.Map.{lookup}

pub record HeadLists : Type 0 where
  pub near : List ℕ
  pub far : List (ℕ × ℕ)

abbrev pub no_heads : HeadLists
no_heads = record { near = []; far = [] }

-- 0 where an item has none
abbrev pub head_of : HeadLists → ℕ → ℕ
head_of heads item = get_or heads.near item (unwrap_or (lookup (λ k. item == k) heads.far) 0)
