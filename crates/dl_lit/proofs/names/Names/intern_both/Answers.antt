use Rattle.std.proofs.Common.{List, subst, sym}
use Rattle.dl_lit.specs.declared.literal.Literal.{Literal}
use Rattle.dl_base.specs.Paths.{IsDistinct}
use Rattle.dl_lit.specs.Names.{with_name}
use Rattle.std.specs.Prelude.{Contains}
use Rattle.dl_lit.proofs.NamesLemmas.{with_name-distinct, with_name-has, with_name-keeps}
use Rattle.dl_lit.proofs.names.Names.intern_both.Goals as goal

pub invariant_of-self-2 : goal.invariant_of-self-2
invariant_of-self-2 c =
    subst (λ (ls : List Literal). IsDistinct ls) (sym c.put-2.ensures.named)
    (with_name-distinct _ _
    (subst (λ (ls : List Literal). IsDistinct ls) (sym c.put.ensures.named)
    (with_name-distinct _ _ (subst (λ (ls : List Literal). IsDistinct ls) (sym c.in_ok-reserve.ensures.keys) c.self.invariant))))

pub returns-clause-distinct : goal.returns-clause-distinct
returns-clause-distinct c =
    subst (λ (ls : List Literal). IsDistinct ls) (sym c.put-2.ensures.named)
    (with_name-distinct _ _
    (subst (λ (ls : List Literal). IsDistinct ls) (sym c.put.ensures.named)
    (with_name-distinct _ _ (subst (λ (ls : List Literal). IsDistinct ls) (sym c.in_ok-reserve.ensures.keys) c.self.invariant))))

pub returns-clause-there : goal.returns-clause-there
returns-clause-there c =
    subst (λ (ls : List Literal). Contains ls c.args.literal.now) (sym c.put-2.ensures.named)
    (with_name-keeps c.put.new.literals.keys c.complement-second.result c.args.literal.now
    (subst (λ (ls : List Literal). Contains ls c.args.literal.now) (sym c.put.ensures.named)
    (subst (λ (q : Literal). Contains (with_name c.reserve.new.self.keys c.in_ok-first.first) q) c.in_ok-first.ensures
    (with_name-has c.reserve.new.self.keys c.in_ok-first.first))))
