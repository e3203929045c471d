use Rattle.std.proofs.Common.{List, subst, sym}
use Rattle.dl_lit.specs.declared.literal.Literal.{Literal}
use Rattle.dl_base.specs.Paths.{IsDistinct}
use Rattle.dl_lit.proofs.NamesLemmas.{with_name-distinct}
use Rattle.dl_lit.proofs.names.Names.intern.Goals as goal

pub invariant_of-self-2 : goal.invariant_of-self-2
invariant_of-self-2 c =
    subst (λ (ls : List Literal). IsDistinct ls) (sym c.in_ok-number.ensures.named) (with_name-distinct _ _ c.self.invariant)

pub returns-clause-distinct : goal.returns-clause-distinct
returns-clause-distinct c =
    subst (λ (ls : List Literal). IsDistinct ls) (sym c.in_ok-number.ensures.named) (with_name-distinct _ _ c.self.invariant)
