-- Literals of a net with their numbers, and the order in which they are sorted.
use Rattle.std.specs.Prelude.{◌≡◌, ℕ, ◌+◌, ◌*◌, ◌<◌, zero, suc, true, IsTrue, List, [], ◌∷◌, All, AllPairs, Contains, length, map, slice_index_or}
use Rattle.std.specs.declared.cmp.Ordering.{Ordering}
use Rattle.std.specs.Ordering.{on, then_cmp, nat_cmp}
use Rattle.std.specs.Cmp.{IsTotalOrder, then_total, on_total, nat_cmp_total}
use Rattle.dl_lit.specs.Borrowed.{literal_of}
use Rattle.dl_lit.specs.Name.{is_name}
use Rattle.dl_lit.specs.Order.{literal_cmp, literal_total}
use Rattle.dl_theory.specs.Listings.{Mentions}
use Rattle.dl_graph.specs.Numbers.{NetLists, literal_at, number_of_other}
use Rattle.dl_conclusions.specs.declared.placed.Placed.{Placed}

-- the first n bytes as one number, the first byte highest, with zeros where there are fewer
abbrev pub prefix : ℕ → List ℕ → ℕ
prefix zero bytes = 0
prefix (suc n) bytes = prefix n bytes * 256 + slice_index_or bytes n 0

-- by prefix, then by literal
abbrev pub placed_cmp : Placed → Placed → Ordering
placed_cmp = then_cmp (on (λ p. p.prefix) nat_cmp) (on (λ p. literal_of p.literal) literal_cmp)

pub placed_total : IsTotalOrder placed_cmp
placed_total = then_total (on_total (λ p. p.prefix) nat_cmp_total) (on_total (λ p. literal_of p.literal) literal_total)

-- a positive literal that the theory mentions, under its number and with the prefix of its atom
pub record IsPlaced (N : NetLists) (p : Placed) : Type 0 where
  pub within : p.number < length N.names
  pub literal : literal_of p.literal ≡ literal_at N p.number
  pub positive : p.literal.positive ≡ true
  pub mentioned : Mentions N.theory (literal_of p.literal)
  pub prefix_is : p.prefix ≡ prefix 8 p.literal.atom.now
  pub spelled : IsTrue (is_name p.literal.atom.now)

-- the positive literals below a number that the theory mentions, in the order of their numbers
pub record ArePlaced (N : NetLists) (n : ℕ) (list : List Placed) : Type 0 where
  pub each : All (IsPlaced N) list
  pub below : All (λ p. p.number < n) list
  pub rising : AllPairs (λ p q. p.number < q.number) list
  pub complete : (k : ℕ) → k < n → (literal_at N k).positive ≡ true → Mentions N.theory (literal_at N k) → Contains (map (λ p. p.number) list) k

-- the number of a literal, and then that of its complement
abbrev pub pair_numbers : NetLists → Placed → List ℕ
pair_numbers N p = p.number ∷ number_of_other N p.number ∷ []
