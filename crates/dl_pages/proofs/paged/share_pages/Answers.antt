use Rattle.std.proofs.Common.{take, ap, ◌∙◌, arith}
use Rattle.dl_pages.proofs.NestedLemmas.{shared_take}
use Rattle.dl_pages.proofs.paged.share_pages.Goals as goal

pub returns-clause-shared : goal.returns-clause-shared
returns-clause-shared g c =
    shared_take c.args.pages.now.items c.loop-number.copy.items c.args.used c.requires.within c.requires.shared
    (c.loop-number.invariant.items ∙ ap (λ n. take n c.args.pages.now.items) (omega arith))
