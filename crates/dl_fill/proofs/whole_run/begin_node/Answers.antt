use Rattle.std.proofs.Common.{ℕ, Bool, length, ap, ◌+◌, ◌*◌, ◌∙◌}
use Rattle.dl_fill.specs.declared.wire.Gate.{Gate}
use Rattle.dl_fill.specs.Before.{is_inside}
use Rattle.dl_fill.specs.Wires.{inputs_at}
use Rattle.dl_fill.specs.Gates.{hits_of, now_of}
use Rattle.dl_fill.specs.Prepared.{begun}
use Rattle.dl_fill.proofs.whole_run.begin_node.Goals as goal

pub returns : goal.returns
returns g c =
    let node : ℕ = c.args.place * c.args.width + c.args.kind in
    let asked : ℕ = length (inputs_at c.args.net.now (is_inside c.args.region.now.members) c.args.width c.args.wires.now c.args.kind c.args.place) in
    c.begin.ensures
    ∙ ap (λ (h : ℕ). begun c.args.counters.now node h (now_of c.gate-gate.result c.inputs_asked-inputs.result)) c.inputs_asked-inputs.ensures.hits
    ∙ ap (λ (b : Bool). begun c.args.counters.now node (hits_of c.gate-gate.result asked) b) c.inputs_asked-inputs.ensures.now
    ∙ ap (λ (t : Gate). begun c.args.counters.now node (hits_of t asked) (now_of t asked)) c.gate-gate.ensures
