-- What a pass over the chains of a list of pairs met.
use Rattle.std.specs.Prelude.{◌≡◌, ◌≢◌, ℕ, ◌<◌, List, Bool, true, false, length, get_or}
use Rattle.dl_sup.specs.declared.link.Link.{Link}
use Rattle.dl_sup.specs.Links.{link}

-- past the end stands a pair that does not count
abbrev pub link_at : List Link → ℕ → Link
link_at links t = get_or links t (link 0 0)

abbrev pub IsMet : List Bool → ℕ → Type 0
IsMet met t = get_or met t false ≡ true

-- the pairs that were met are distinct, and their upper items are below a bound
pub record IsPassed (links : List Link) (met : List Bool) (bound : ℕ) : Type 0 where
  pub wide : length met ≡ length links
  pub below : (t : ℕ) → IsMet met t → (link_at links t).upper < bound
  pub distinct : (s t : ℕ) → IsMet met s → IsMet met t → s ≢ t → link_at links s ≢ link_at links t

-- the lower items of the pairs of an item that were met have its mark
abbrev pub IsStamped : List Link → List Bool → List ℕ → ℕ → Type 0
IsStamped links met stamps item = (t : ℕ) → IsMet met t → (link_at links t).upper ≡ item → get_or stamps (link_at links t).lower 0 ≡ item
