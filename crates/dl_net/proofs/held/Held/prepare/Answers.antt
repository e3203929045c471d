use Rattle.std.proofs.Common.{◌≡◌, sym, ap, subst, ◌∙◌}
use Rattle.dl_theory.specs.Lists.{TheoryLists}
use Rattle.dl_theory.specs.Edits.{IsAnswered}
use Rattle.dl_graph.specs.Numbers.{NetLists}
use Rattle.dl_net.specs.declared.held.Held.{Held}
use Rattle.dl_net.specs.Kept.{net_in}
use Rattle.dl_net.specs.KeptNet.{tables_in}
use Rattle.dl_net.proofs.Keeping.{theory_renewed, keeps_theory}
use Rattle.dl_net.proofs.held.Held.prepare.Goals as goal

pub returns-clause-answered : goal.returns-clause-answered
returns-clause-answered c =
    let same : net_in c.in-Own.tables ≡ net_in (tables_in c.args.self.now) =
    ap (λ (h : Held). net_in (tables_in h)) (sym c.in-Own.is) ∙ c.in_ok-own.ensures.net in
    subst (λ (T : TheoryLists). IsAnswered T c.args.edit.now c.prepare.result)
    (theory_renewed c.in-Own.tables c.renew.new.self c.renew.ensures.net ∙ ap (λ (N : NetLists). N.theory) same) c.prepare.ensures.answered

pub returns-clause-keeps : goal.returns-clause-keeps
returns-clause-keeps c =
    keeps_theory (tables_in c.args.self.now) c.in-Own.tables c.renew.new.self c.prepare.new.self
    (ap (λ (h : Held). net_in (tables_in h)) (sym c.in-Own.is) ∙ c.in_ok-own.ensures.net) c.renew.ensures.net c.prepare.ensures.keeps
