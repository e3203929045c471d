-- Literals by number.
use Rattle.std.specs.Prelude.{Bool, false, List, [], ◌∷◌, ◌++◌, if◌then◌else◌}
use Rattle.std.specs.List.{list_any}
use Rattle.dl_lit.specs.declared.literal.Literal.{Literal}
use Rattle.dl_lit.specs.Literal.{literal_eq, complement}

-- literals at their numbers, and whether they can be shared
pub record Numbering : Type 0 where
  pub literals : List Literal
  pub frozen : Bool

abbrev pub no_names : Numbering
no_names = record { literals = []; frozen = false }

-- a literal that is there keeps its number, and a new one goes last
abbrev pub with_name : List Literal → Literal → List Literal
with_name literals q = if list_any (literal_eq q) literals then literals else literals ++ q ∷ []

-- the literal and then its complement
abbrev pub with_both : List Literal → Literal → List Literal
with_both literals q = with_name (with_name literals q) (complement q)
