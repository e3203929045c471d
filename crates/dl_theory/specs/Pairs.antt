-- Pairs of labels: equality, and how a list of pairs of numbers stands for them.
use Rattle.std.specs.Hash as fed
use Rattle.std.specs.Prelude.{◌≡◌, ◌++◌, ℕ, ◌<◌, Bool, ◌&&◌, IsTrue, List, [], length, slice_index_or, All, map}
use Rattle.std.specs.Bool.{Decides}
use Rattle.std.specs.Str.{bytes_eq}
use Rattle.std.specs.Cmp.{IsEquivalence, and_equiv, on_equiv, nat_eq_equiv}
use Rattle.std.specs.Cmp.Lexicographic.{lists_equiv}
use Rattle.std.proofs.Common.{ap}
use Rattle.std.proofs.lemmas.Slice.Eq.{bytes_eq-Decides}
use Rattle.std.proofs.lemmas.Bool.Decides.{Decides-and, Decides-like}
use Rattle.dl_base.specs.Paths.{IsDistinct, IsPath}
use Rattle.dl_lit.specs.Order.{name_hash}
use Rattle.dl_sup.specs.declared.link.Link.{Link}
use Rattle.dl_theory.specs.declared.rule.Pair.{Pair}
use Rattle.dl_theory.specs.Lists.{IsAbove}

-- whether both labels are equal
abbrev pub pair_eq : Pair → Pair → Bool
pair_eq p q = bytes_eq p.upper q.upper && bytes_eq p.lower q.lower

pub pair_equiv : IsEquivalence pair_eq
pair_equiv = and_equiv (on_equiv (λ p. p.upper) (lists_equiv nat_eq_equiv)) (on_equiv (λ p. p.lower) (lists_equiv nat_eq_equiv))

pub pair_eq-Decides : (p q : Pair) → Decides (pair_eq p q) (p ≡ q)
pair_eq-Decides p q =
    Decides-like (pair_eq p q) (λ h i. record { upper = h.0 i; lower = h.1 i }) (λ e. (ap (λ r. r.upper) e, ap (λ r. r.lower) e))
    (Decides-and (bytes_eq p.upper q.upper) (bytes_eq p.lower q.lower) (bytes_eq-Decides p.upper q.upper) (bytes_eq-Decides p.lower q.lower))

abbrev pub pair_hash : Pair → fed.HashWrites
pair_hash p = name_hash p.upper ++ name_hash p.lower

-- equal pairs hash alike
pub pair_hashes : (p q : Pair) → IsTrue (pair_eq p q) → pair_hash p ≡ pair_hash q
pair_hashes p q h = ap pair_hash ((pair_eq-Decides p q).0 h)

-- a path leads from the lower label to the upper one, or they are one label
abbrev pub Closes : List Pair → Pair → Type 0
Closes pairs p = (path : List (List ℕ)) × IsPath (IsAbove pairs) p.lower p.upper path

-- the label with a number
abbrev pub label_at : List (List ℕ) → ℕ → List ℕ
label_at items n = slice_index_or items n []

-- the pair of labels for a pair of numbers
abbrev pub named : List (List ℕ) → Link → Pair
named items l = record { upper = label_at items l.upper; lower = label_at items l.lower }

-- both numbers are those of labels
abbrev pub IsWithin : List (List ℕ) → Link → Type 0
IsWithin items l = (l.upper < length items) × (l.lower < length items)

-- the pairs of numbers stand for the pairs of labels
pub record IsNumbered (items : List (List ℕ)) (links : List Link) (pairs : List Pair) : Type 0 where
  pub distinct : IsDistinct items
  pub within : All (IsWithin items) links
  pub names : pairs ≡ map (named items) links

-- a pair of numbers stands for a pair of labels
pub record IsNumberOf (items : List (List ℕ)) (l : Link) (p : Pair) : Type 0 where
  pub within : IsWithin items l
  pub names : named items l ≡ p
