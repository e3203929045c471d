use Rattle.std.proofs.Common.{ap, sym, ◌∙◌}
use Rattle.dl_net.specs.Kept.{net_in}
use Rattle.dl_net.specs.KeptNet.{tables_in}
use Rattle.dl_net.proofs.held.Held.share.Goals as goal

pub returns-in-Shared-clause-net : goal.returns-in-Shared-clause-net
returns-in-Shared-clause-net c = ap (λ h. net_in (tables_in h)) (sym c.in-Shared.is ∙ c.replace.ensures.value)

pub returns-in-Ok-clause-net : goal.returns-in-Ok-clause-net
returns-in-Ok-clause-net c = ap net_in c.in-Ok.ensures.ok ∙ c.freeze.ensures.net ∙ ap (λ h. net_in (tables_in h)) (sym c.in-Own.is ∙ c.replace.ensures.value)

pub returns-in-Err-clause-net : goal.returns-in-Err-clause-net
returns-in-Err-clause-net c = ap net_in c.in-Err.ensures.value_returned ∙ c.freeze.ensures.net ∙ ap (λ h. net_in (tables_in h)) (sym c.in-Own.is ∙ c.replace.ensures.value)
