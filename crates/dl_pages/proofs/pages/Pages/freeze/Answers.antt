use Rattle.std.proofs.Common.{ap, ◌∙◌, arith}
use Rattle.std.proofs.lemmas.Result.{on_ok_weaker}
use Rattle.dl_pages.specs.Pages.{parts}
use Rattle.dl_pages.proofs.PageLemmas.{none_owned}
use Rattle.dl_pages.proofs.PagedLemmas.{items_frozen, kept_frozen}
use Rattle.dl_pages.proofs.pages.Pages.freeze.Goals as goal

pub invariant_of-self : goal.invariant_of-self
invariant_of-self g c =
    kept_frozen c.self.inside.pages.items c.self.inside.len c.self.inside.spare c.args.self.now c.self.invariant c.self.view_is
    c.div_ceil.result (omega (arith, c.div_ceil.ensures)) c.freeze_all.new.pages.items
    (c.freeze_all.ensures.items ∙ ap parts c.truncate.ensures.items)

pub returns-clause-items : goal.returns-clause-items
returns-clause-items g c =
    items_frozen c.self.inside.pages.items c.self.inside.len c.self.inside.spare c.args.self.now c.self.invariant c.self.view_is
    c.div_ceil.result (omega (arith, c.div_ceil.ensures)) c.freeze_all.new.pages.items
    (c.freeze_all.ensures.items ∙ ap parts c.truncate.ensures.items)

pub returns-clause-shared : goal.returns-clause-shared
returns-clause-shared g c = on_ok_weaker c.freeze_all.result (none_owned c.freeze_all.new.pages.items) c.freeze_all.ensures.shared
