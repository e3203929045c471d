use Rattle.std.proofs.Common.{◌≡◌, ◌*◌, length, sym, ap, subst, ◌∙◌}
use Rattle.dl_lit.specs.Names.{Numbering}
use Rattle.dl_names.specs.Paired.{IsPaired}
use Rattle.dl_names.proofs.PairLemmas.{pairs_len, pairs_paired}
use Rattle.dl_names.proofs.paired_names.PairedNames.len.Goals as goal

pub returns-clause-len : goal.returns-clause-len
returns-clause-len c =
    subst (λ (n : Numbering). 2 * c.len.result ≡ length n.literals) c.self.view_is
    (ap (λ k. 2 * k) c.len.ensures.len ∙ sym (pairs_len c.self.inside.pairs))

pub returns-clause-paired : goal.returns-clause-paired
returns-clause-paired c = subst (λ (n : Numbering). IsPaired n.literals) c.self.view_is (pairs_paired c.self.inside.pairs)
