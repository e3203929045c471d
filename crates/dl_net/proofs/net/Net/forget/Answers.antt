use Rattle.std.proofs.Common.{◌≡◌, None, false, ap, sym, ◌∙◌}
use Rattle.dl_graph.specs.Numbers.{NetLists}
use Rattle.dl_net.specs.declared.held.Held.{Held}
use Rattle.dl_net.specs.declared.net.Net.TheInside.{Inside}
use Rattle.dl_net.specs.Kept.{net_in}
use Rattle.dl_net.specs.KeptNet.{tables_in}
use Rattle.dl_net.proofs.Keeping.{keeps_net}
use Rattle.dl_net.proofs.net.Net.forget.Goals.{in-Own, in_default}
use Rattle.dl_net.proofs.net.Net.forget.Goals as goal

pub returns : goal.returns
returns c =
    let same : net_in (tables_in c.match-self.self-inside.held) ≡ net_in (tables_in c.self.inside.held) = elim c.match-self.branch [
      | in-Own w ↦
          ap (λ (s : Inside). net_in (tables_in s.held)) w.self-inside-is
          ∙ keeps_net w.in-Own.tables w.forget.new.self w.forget.ensures.keeps
          ∙ ap (λ (h : Held). net_in (tables_in h)) (sym w.in-Own.is)
      | in_default w ↦ ap (λ (s : Inside). net_in (tables_in s.held)) w.self-inside-is
    ] in
    same ∙ ap (λ (N : NetLists). record N { pending = None; frozen = false }) c.self.view_is
