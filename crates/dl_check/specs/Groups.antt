-- Values in groups, each group found by its key.
use Rattle.std.specs.Prelude.{◌≡◌, Bool, List, [], Vec, filter, map}
use Rattle.std.specs.Option.{option_map_or}
use Rattle.std.specs.Map.{lookup}
use Rattle.std.proofs.Common.{Global}

-- the values of a key
abbrev pub group : {K V : Type 0} → (K → K → Bool) → List (K × Vec V Global) → K → List V
group eq groups k = option_map_or (λ v. v.items) (lookup (eq k) groups) []

-- for each key the groups have the values of the members with that key, in order
abbrev pub IsGrouped : {K V X : Type 0} → (K → K → Bool) → (X → K) → (X → V) → List (K × Vec V Global) → List X → Type 0
IsGrouped {K} eq key value groups xs = (k : K) → group eq groups k ≡ map value (filter (λ x. eq (key x) k) xs)
