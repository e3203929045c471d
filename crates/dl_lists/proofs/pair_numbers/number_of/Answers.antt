use Rattle.std.proofs.Common.{List, ℕ, subst, sym}
use Rattle.std.specs.Prelude.{Contains}
use Rattle.dl_lists.specs.KeptPairs.{pairs_in}
use Rattle.dl_rows.proofs.There.{there_has}
use Rattle.dl_lists.proofs.LabelLemmas.{if_none_more}
use Rattle.dl_lists.proofs.pair_numbers.number_of.Goals as goal

pub returns-clause-absent : goal.returns-clause-absent
returns-clause-absent c =
    if_none_more c.find_in.result c.find_in.ensures.absent (λ none m.
    let from = there_has (pairs_in c.args.pairs.now.items) c.args.pair m in
    none from.0
    (subst (λ (row : List ℕ). Contains row from.0) (sym c.row.ensures) (c.requires c.args.pair from.0 from.1).0)
    from.1)
