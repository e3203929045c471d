use Rattle.std.proofs.Common.{sym, ap, subst}
use Rattle.dl_lit.specs.Names.{Numbering}
use Rattle.dl_net.specs.Loading.{IsLoading}
use Rattle.dl_net.proofs.NumberedLemmas.{none_loading}
use Rattle.dl_net.proofs.numbered.NumberedTheory.make.Goals as goal

pub invariant_of-result : goal.invariant_of-result
invariant_of-result c =
    subst IsLoading
    (λ i. record {
      names = sym (ap (λ (n : Numbering). n.literals) c.make-3.ensures) i;
      labels = sym c.name_set.ensures i;
      order = sym c.make.ensures.items i;
      pairs = sym c.make-2.ensures i;
      marks = sym c.make-4.ensures.items i;
      lines = sym c.make-5.ensures i;
    })
    none_loading
