-- Literals and their numbers.
use Rattle.std.proofs.Common.{◌≡◌, ◌∙◌, ℕ, ◌<◌, length, ap, subst}
use Rattle.std.proofs.lemmas.List.Sums.{passes_at_first}
use Rattle.dl_lit.specs.declared.literal.Literal.{Literal}
use Rattle.dl_lit.specs.Literal.{literal_eq}
use Rattle.dl_lit.specs.Order.{literal_eq-Decides}
use Rattle.dl_graph.specs.Numbers.{NetLists, no_literal, literal_at, number}

-- the literal at the number that was found is the one that was sought
pub found_at : (N : NetLists) (q : Literal) (n : ℕ) → n < length N.names → n ≡ number N q → literal_at N n ≡ q
found_at N q n lt is =
    let at : number N q < length N.names = subst (λ (m : ℕ). m < length N.names) is lt in
    ap (literal_at N) is ∙ (literal_eq-Decides (literal_at N (number N q)) q).0 (passes_at_first (λ (x : Literal). literal_eq x q) N.names no_literal at)
