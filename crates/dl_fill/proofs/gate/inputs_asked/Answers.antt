use Rattle.std.proofs.Common.{length, ap, ◌∙◌}
use Rattle.dl_fill.specs.Before.{is_inside}
use Rattle.dl_fill.specs.Gates.{hits_of, now_of}
use Rattle.dl_fill.proofs.Spanning.{inputs_spanned}
use Rattle.dl_fill.proofs.gate.inputs_asked.Goals as goal

pub returns-in-Every-clause-hits : goal.returns-in-Every-clause-hits
returns-in-Every-clause-hits c =
    ap (hits_of c.args.gate)
    (c.inputs_len.ensures.len
    ∙ ap length
    (inputs_spanned c.args.net.now (is_inside c.args.region.now.members) c.args.width c.args.kind c.args.place c.part.result.now c.args.wires.now
    (c.part.ensures.same (λ w. w.to) c.requires.spans)))

pub returns-in-Every-clause-now : goal.returns-in-Every-clause-now
returns-in-Every-clause-now c =
    ap (now_of c.args.gate)
    (c.inputs_len.ensures.len
    ∙ ap length
    (inputs_spanned c.args.net.now (is_inside c.args.region.now.members) c.args.width c.args.kind c.args.place c.part.result.now c.args.wires.now
    (c.part.ensures.same (λ w. w.to) c.requires.spans)))
