-- Pairs of literals by atom and the number of their mode.
use Rattle.std.specs.Hash as fed
use Rattle.std.specs.Prelude.{◌≡◌, ◌==◌, ◌++◌, IsTrue, Bool, ℕ, zero, suc, List, Option, None, slice_get}
use Rattle.std.specs.Bool.{Decides}
use Rattle.std.specs.Cmp.{IsEquivalence, and_equiv, on_equiv, nat_eq_equiv}
use Rattle.std.specs.Cmp.Lexicographic.{lists_equiv}
use Rattle.std.specs.Ordering.{on, eq_of_both}
use Rattle.std.specs.Str.{bytes_eq}
use Rattle.std.proofs.lemmas.Bool.Decides.{Decides-and, Decides-eqb}
use Rattle.std.proofs.lemmas.Slice.Eq.{bytes_eq-Decides}
use Rattle.dl_lit.specs.declared.literal.Literal.{Literal}
use Rattle.dl_lit.specs.Order.{name_hash}
use Rattle.dl_names.specs.declared.atom.Atom.{Atom}
use Rattle.dl_names.specs.declared.atom.Sought.{Sought}

-- the mode with a number: none for 0
abbrev pub mode_at : List (List ℕ) → ℕ → Option (List ℕ)
mode_at modes zero = None
mode_at modes (suc n) = slice_get modes n

-- the first literal of a pair
abbrev pub first_of : List (List ℕ) → Atom → Literal
first_of modes a = record { mode = mode_at modes a.mode; atom = a.name; positive = a.positive }

-- the number of a mode, and an atom
abbrev pub pair_eq : ℕ × List ℕ → ℕ × List ℕ → Bool
pair_eq = eq_of_both (on (λ p. p.0) (λ m n. m == n)) (on (λ p. p.1) bytes_eq)

pub pair_equiv : IsEquivalence pair_eq
pair_equiv = and_equiv (on_equiv (λ p. p.0) nat_eq_equiv) (on_equiv (λ p. p.1) (lists_equiv nat_eq_equiv))

pub pair_eq-Decides : (m n : ℕ) (a b : List ℕ) → Decides (pair_eq (m, a) (n, b)) ((m ≡ n) × (a ≡ b))
pair_eq-Decides m n a b = Decides-and (m == n) (bytes_eq a b) (Decides-eqb m n) (bytes_eq-Decides a b)

abbrev pub atom_eq : Atom → Atom → Bool
atom_eq = on (λ a. (a.mode, a.name)) pair_eq

pub atom_equiv : IsEquivalence atom_eq
atom_equiv = on_equiv (λ a. (a.mode, a.name)) pair_equiv

abbrev pub sought_eq : Sought → Sought → Bool
sought_eq = on (λ q. (q.mode, q.name.now)) pair_eq

pub sought_equiv : IsEquivalence sought_eq
sought_equiv = on_equiv (λ q. (q.mode, q.name.now)) pair_equiv

-- whether an atom is the one that is sought
abbrev pub stands_for : Sought → Atom → Bool
stands_for q a = pair_eq (q.mode, q.name.now) (a.mode, a.name)

-- what is sought is found at equal atoms alike
pub stands_for_congr : (q : Sought) (a b : Atom) → IsTrue (stands_for q a) → stands_for q b ≡ atom_eq a b
stands_for_congr q a b = pair_equiv.congr (q.mode, q.name.now) (a.mode, a.name) (b.mode, b.name)

-- the number of a mode, where there is one, and then the atom
abbrev pub pair_hash : ℕ → List ℕ → fed.HashWrites
pair_hash zero name = name_hash name
pair_hash (suc n) name = fed.u32 (suc n) ++ name_hash name

-- equal numbers and atoms hash alike
pub pair_hashes : (m n : ℕ) (a b : List ℕ) → IsTrue (pair_eq (m, a) (n, b)) → pair_hash m a ≡ pair_hash n b
pair_hashes m n a b h = let e = (pair_eq-Decides m n a b).0 h in λ i. pair_hash (e.0 i) (e.1 i)
