-- Literals by their modes and atoms, whatever their signs, and each beside its complement.
use Rattle.std.specs.Prelude.{◌≡◌, Bool, List, [], ◌∷◌}
use Rattle.std.specs.Bool.{Decides}
use Rattle.std.specs.Ordering.{on, eq_of_both}
use Rattle.std.specs.Option.{option_eq}
use Rattle.std.specs.Str.{bytes_eq}
use Rattle.std.proofs.lemmas.Bool.Decides.{Decides-and}
use Rattle.std.proofs.lemmas.Slice.Eq.{bytes_eq-Decides}
use Rattle.dl_lit.specs.declared.literal.Literal.{Literal}
use Rattle.dl_lit.specs.Literal.{complement}
use Rattle.dl_lit.specs.Order.{option_eq-Decides}

-- whether mode and atom are equal
abbrev pub same_atom : Literal → Literal → Bool
same_atom = eq_of_both (on (λ q. q.mode) (option_eq bytes_eq)) (on (λ q. q.atom) bytes_eq)

pub same_atom-Decides : (a b : Literal) → Decides (same_atom a b) ((a.mode ≡ b.mode) × (a.atom ≡ b.atom))
same_atom-Decides a b =
    Decides-and (option_eq bytes_eq a.mode b.mode) (bytes_eq a.atom b.atom) (option_eq-Decides a.mode b.mode) (bytes_eq-Decides a.atom b.atom)

-- each literal and then its complement
abbrev pub pairs_of : List Literal → List Literal
pairs_of [] = []
pairs_of (q ∷ qs) = q ∷ complement q ∷ pairs_of qs
