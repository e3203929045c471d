use Rattle.std.proofs.Common.{Option, ap, sym, subst, ◌∙◌}
use Rattle.dl_theory.specs.declared.edit.Edit.{Edit}
use Rattle.dl_theory.specs.Lists.{TheoryLists}
use Rattle.dl_theory.specs.Edits.{after_edit}
use Rattle.dl_graph.specs.Numbers.{NetLists}
use Rattle.dl_net.specs.declared.held.Held.{Held}
use Rattle.dl_net.specs.Kept.{HasPending, net_in}
use Rattle.dl_net.specs.KeptNet.{edit_in, tables_in}
use Rattle.dl_net.proofs.net.Net.commit.Goals as goal

pub make_edit-requires-clause-accepted : goal.make_edit-requires-clause-accepted
make_edit-requires-clause-accepted c =
    (subst (λ (o : Option Edit). HasPending c.in-Own.tables o) (ap (λ (N : NetLists). N.pending) c.self.view_is ∙ c.requires)
    (subst (λ (h : Held). HasPending (tables_in h) (edit_in c.self.inside.pending)) c.in-Own.is c.self.invariant.pending)).0

pub returns-clause-theory : goal.returns-clause-theory
returns-clause-theory c =
    c.make_edit.ensures.theory
    ∙ ap (λ (T : TheoryLists). after_edit T c.args.ready.edit)
    (ap (λ (h : Held). (net_in (tables_in h)).theory) (sym c.in-Own.is) ∙ ap (λ (N : NetLists). N.theory) c.self.view_is)
