-- The literals of an edit.
use Rattle.std.specs.Prelude.{List, [], ◌∷◌, Contains}
use Rattle.dl_lit.specs.declared.literal.Literal.{Literal}
use Rattle.dl_theory.specs.declared.edit.Edit.{Edit}
use Rattle.dl_theory.specs.declared.edit.Edit.TheVariants.{AddRule, DropRule, AddFact, DropFact, AddPair, DropPair}
use Rattle.dl_graph.specs.Named.{HasLiterals}

-- the literals that an edit may number, with their complements
abbrev pub edit_literals : Edit → List Literal
edit_literals (AddRule r) = r.head ∷ r.body
edit_literals (DropRule l) = []
edit_literals (AddFact q) = q ∷ []
edit_literals (DropFact q) = []
edit_literals (AddPair p) = []
edit_literals (DropPair p) = []

-- what an edit adds has its literals among the names
abbrev pub HasEditLiterals : List Literal → Edit → Type 0
HasEditLiterals ls (AddRule r) = HasLiterals ls r
HasEditLiterals ls (DropRule l) = Unit {0}
HasEditLiterals ls (AddFact q) = Contains ls q
HasEditLiterals ls (DropFact q) = Unit {0}
HasEditLiterals ls (AddPair p) = Unit {0}
HasEditLiterals ls (DropPair p) = Unit {0}
