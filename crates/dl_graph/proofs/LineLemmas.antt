-- The numbers of a rule's literals are those of names.
use Rattle.std.proofs.Common.{ℕ, ◌<◌, ◌≤◌, List, length, map, arith}
use Rattle.std.specs.Prelude.{All, Contains}
use Rattle.std.proofs.lemmas.List.Elements.{All-map, All-weaker}
use Rattle.dl_base.specs.Paths.{IsDistinct}
use Rattle.dl_lit.specs.declared.literal.Literal.{Literal}
use Rattle.dl_theory.specs.declared.rule.Rule.{Rule}
use Rattle.dl_names.specs.Paired.{number_in}
use Rattle.dl_names.proofs.NameLemmas.{number_within}
use Rattle.dl_rules.specs.Lines.{IsWithin}
use Rattle.dl_graph.specs.Named.{HasLiterals, line_in}

pub numbers_within : (ls : List Literal) (w : ℕ) (qs : List Literal) → IsDistinct ls → All (Contains ls) qs → length ls ≤ w
    → All (λ b. b < w) (map (number_in ls) qs)
numbers_within ls w qs distinct there wide =
    All-map (λ b. b < w) (number_in ls) qs
    (All-weaker (Contains ls) (λ q. number_in ls q < w) (λ q m. let at = number_within ls q distinct m in omega (arith, at.0, wide)) qs there)

pub line_within : (ls : List Literal) (w : ℕ) (r : Rule) → IsDistinct ls → HasLiterals ls r → length ls ≤ w → IsWithin w (line_in ls r)
line_within ls w r distinct h wide = (
  (let at = number_within ls r.head distinct h.0 in omega (arith, at.0, wide)),
  numbers_within ls w r.body distinct h.1 wide,
)
