use Rattle.std.proofs.Common.{ap, ◌∙◌, None, false}
use Rattle.dl_graph.specs.Numbers.{NetLists}
use Rattle.dl_net.specs.Kept.{net_in}
use Rattle.dl_net.proofs.net.Net.graph.Goals as goal

pub returns : goal.returns
returns c = c.graph.ensures ∙ ap net_in c.tables.ensures ∙ ap (λ (N : NetLists). record N { pending = None; frozen = false }) c.self.view_is
