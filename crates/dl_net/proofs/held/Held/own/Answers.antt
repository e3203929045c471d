use Rattle.std.proofs.Common.{ap, sym, ◌∙◌}
use Rattle.dl_net.specs.Kept.{net_in}
use Rattle.dl_net.specs.KeptNet.{tables_in}
use Rattle.dl_net.proofs.held.Held.own.Goals as goal

pub returns-clause-net : goal.returns-clause-net
returns-clause-net c = c.in_ok-copy-in-Shared.ensures.net ∙ ap net_in c.deref.ensures ∙ ap (λ h. net_in (tables_in h)) (sym c.in-Shared.is)
