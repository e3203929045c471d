use Rattle.std.proofs.Common.{List, subst, sym}
use Rattle.std.specs.Prelude.{Contains}
use Rattle.dl_lit.specs.declared.literal.Literal.{Literal}
use Rattle.dl_lit.specs.Literal.{complement}
use Rattle.dl_theory.specs.Lists.{TheoryLists}
use Rattle.dl_theory.specs.Listings.{Mentions}
use Rattle.dl_logic_tests.proofs.costs.touch_known.Goals as goal

pub returns-clause-mentioned : goal.returns-clause-mentioned
returns-clause-mentioned g c = λ q h.
    subst (λ (ls : List Literal). Contains ls q) c.graph.ensures.names
    (c.names-names.ensures.numbered.mentioned q (subst (λ (T : TheoryLists). Mentions T q) (sym c.graph.ensures.theory) h))

pub returns-clause-complements : goal.returns-clause-complements
returns-clause-complements g c = λ q h.
    subst (λ (ls : List Literal). Contains ls (complement q)) c.graph.ensures.names
    (c.names-names.ensures.numbered.complements q (subst (λ (ls : List Literal). Contains ls q) (sym c.graph.ensures.names) h))
