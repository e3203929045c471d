use Rattle.dl_fill.proofs.Starting.{give_room, give_idle, give_fresh, hits_few}
use Rattle.std.proofs.Common.{sym, ap, ◌∙◌, inl, inr, arith}
use Rattle.dl_fill.specs.Gates.{hits_of}
use Rattle.dl_fill.proofs.gate.begin.Goals as goal

pub wait-requires-clause-few : goal.wait-requires-clause-few
wait-requires-clause-few c = omega (arith, c.hits-count.ensures, hits_few c.args.gate c.args.inputs c.requires.few)

pub wait-requires-clause-fresh : goal.wait-requires-clause-fresh
wait-requires-clause-fresh c =
    elim c.requires.fresh [
      | inl never ↦ inl (c.hits-count.ensures ∙ ap (λ g. hits_of g c.args.inputs) never)
      | inr fresh ↦ inr fresh
    ]

pub give-requires-clause-room : goal.give-requires-clause-room
give-requires-clause-room c =
    give_room c.args.counters.now c.wait.new.self c.args.node c.hits-count.result c.args.gate c.args.inputs c.wait.ensures c.hits-count.ensures
    (sym c.fires_now.ensures ∙ c.if-fires_now.true) c.requires.node c.requires.room

pub give-requires-clause-idle : goal.give-requires-clause-idle
give-requires-clause-idle c =
    give_idle c.args.counters.now c.wait.new.self c.args.node c.hits-count.result c.args.gate c.args.inputs c.wait.ensures c.hits-count.ensures
    (sym c.fires_now.ensures ∙ c.if-fires_now.true) c.requires.node

pub give-requires-clause-fresh : goal.give-requires-clause-fresh
give-requires-clause-fresh c =
    give_fresh c.args.counters.now c.wait.new.self c.args.node c.hits-count.result c.args.gate c.args.inputs c.wait.ensures
    (sym c.fires_now.ensures ∙ c.if-fires_now.true) c.requires.fresh
