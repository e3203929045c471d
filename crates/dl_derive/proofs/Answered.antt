-- Answers that fit, from what the marks tell.
use Rattle.std.proofs.Common.{◌≡◌, ℕ, ◌<◌, Bool, true, false, Some, length, sym, ◌∙◌, true≢false}
use Rattle.std.specs.Prelude.{Contains, position}
use Rattle.std.proofs.lemmas.List.Quantifiers.{position-Some}
use Rattle.dl_lit.specs.declared.literal.Literal.{Literal}
use Rattle.dl_lit.specs.declared.literal.Family.{Family}
use Rattle.dl_lit.specs.Literal.{tagged, literal_eq}
use Rattle.dl_lit.specs.Order.{literal_eq-Decides}
use Rattle.dl_theory.specs.Derivations.{Follows}
use Rattle.dl_theory.specs.Verdicts.{needs}
use Rattle.dl_theory.proofs.Needs.{needs_itself}
use Rattle.dl_graph.specs.Numbers.{NetLists, no_literal, literal_at}
use Rattle.dl_fill.specs.Before.{Before, tag_of, IsExact}

-- a literal is found at its number
pub found : (N : NetLists) (q : Literal) (n : ℕ) → position (literal_eq q) N.names ≡ Some n → (n < length N.names) × (literal_at N n ≡ q)
found N q n e =
    let p = position-Some (literal_eq q) N.names n no_literal e in
    (p.0, sym ((literal_eq-Decides q (literal_at N n)).0 p.1))

module _ (N : NetLists) (b : Before) (f : Family) (exact : (g : Family) → Contains (needs f) g → IsExact N b g) (q : ℕ) (lt : q < length N.names) where
  pub marked_follows : (plus : Bool) → b.marked (tag_of plus f) q ≡ true → Follows N.theory (tagged plus f (literal_at N q))
  marked_follows plus e = (exact f (needs_itself f) plus q lt).0 e

  pub unmarked_not : (plus : Bool) → b.marked (tag_of plus f) q ≡ false → ¬ Follows N.theory (tagged plus f (literal_at N q))
  unmarked_not plus e follows = true≢false (sym ((exact f (needs_itself f) plus q lt).1 follows) ∙ e)
