use Rattle.std.proofs.Common.{List, arith, sym, subst}
use Rattle.dl_lit.specs.declared.literal.Tagged.{Tagged}
use Rattle.dl_lit.specs.declared.literal.Family.TheVariants.{Definite}
use Rattle.dl_lit.specs.Literal.{tagged}
use Rattle.dl_theory.specs.Verdicts.{DerivesAt}
use Rattle.dl_graph.specs.Numbers.{literal_at}
use Rattle.dl_fill.proofs.Solved.{needs_definite}
use Rattle.dl_fill.proofs.Written.{exact_of_right}
use Rattle.dl_derive.proofs.Certified.{led_derives}
use Rattle.dl_derive.proofs.leading.led.Goals as goal

pub sure_for-requires-clause-bound : goal.sure_for-requires-clause-bound
sure_for-requires-clause-bound g c = c.requires.asked.back.bound

pub sure_for-requires-clause-room : goal.sure_for-requires-clause-room
sure_for-requires-clause-room g c = c.requires.asked.room

pub sure_for-requires-clause-right : goal.sure_for-requires-clause-right
sure_for-requires-clause-right g c = c.requires.asked.right Definite (needs_definite c.args.family)

pub behind_sure-requires-clause-width : goal.behind_sure-requires-clause-width
behind_sure-requires-clause-width g c = rw (c.width.ensures.width) (omega (arith, c.width.ensures.sound.table.rules))

pub behind_sure-requires-clause-bound : goal.behind_sure-requires-clause-bound
behind_sure-requires-clause-bound g c = c.requires.asked.back.bound

pub returns : goal.returns
returns g c =
    subst
    (λ (steps : List Tagged). DerivesAt c.args.net.now.theory c.args.family (literal_at c.args.net.now c.args.number) (tagged c.args.plus c.args.family (literal_at c.args.net.now c.args.number)) steps)
    (sym (rw (c.deref-2.ensures.value, c.deref-3.ensures.value, c.width.ensures.width, c.tags.ensures) at c.in_ok-list.ensures))
    (led_derives c.args.net.now c.names-names.ensures.numbered c.args.marks.now c.args.number c.requires.asked.number c.args.region.now c.requires.asked.back c.args.family
    (λ h needed. exact_of_right c.args.net.now c.args.marks.now c.args.region.now h c.requires.asked.room (c.requires.asked.right h needed))
    c.in_ok-sure.sure.items g.G.FamilyGates.table (g.G.Gates.tells c.args.gates.now) c.width.ensures.sound c.requires.filled c.args.plus c.in_ok-nodes.nodes.items
    c.in_ok-nodes.ensures (rw (c.deref.ensures.value) at c.in_ok-sure.ensures.sure) c.in_ok-sure.ensures.none)
