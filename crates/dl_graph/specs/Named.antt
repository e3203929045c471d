-- Rules and facts by the numbers of their literals.
use Rattle.std.specs.Prelude.{◌≡◌, ℕ, ◌<◌, ◌≤◌, Bool, false, cond, List, [], ◌∷◌, length, get_or, map, All, Contains}
use Rattle.std.specs.Set.{is_member}
use Rattle.dl_lit.specs.declared.literal.Literal.{Literal}
use Rattle.dl_lit.specs.Literal.{literal_eq}
pub use Rattle.dl_names.specs.Paired.{IsPaired, IsNear, Grows, number_in}
use Rattle.dl_theory.specs.declared.rule.Rule.{Rule}
use Rattle.dl_rules.specs.Lines.{Line, passes}
use Rattle.dl_graph.specs.Numbers.{NetLists, no_literal, number}

-- the literals of a rule
abbrev pub HasLiterals : List Literal → Rule → Type 0
HasLiterals ls r = Contains ls r.head × All (Contains ls) r.body

-- a rule by the numbers of its literals
abbrev pub line_in : List Literal → Rule → Line
line_in ls r = record { kind = r.kind; head = number_in ls r.head; body = map (number_in ls) r.body }

-- the number of the head, where the rule is strict, or else where it can support it
abbrev pub concluded_row : NetLists → Bool → Rule → List ℕ
concluded_row N strict r = cond (passes strict r.kind) (number N r.head ∷ []) []

-- by number, whether the literal is a fact; a number past the marks is that of no fact
pub record HasFacts (ls facts : List Literal) (marks : List Bool) : Type 0 where
  pub marked : (n : ℕ) → n < length ls → get_or marks n false ≡ is_member literal_eq facts (get_or ls n no_literal)
  pub within : length marks ≤ length ls
