use Rattle.std.proofs.Common.{◌≡◌, ◌∷◌, flat_map}
use Rattle.dl_calls.specs.declared.call.Call.TheVariants.{Enrol}
use Rattle.dl_draw.specs.Generator.{draw_each, draw_calls}
use Rattle.dl_draw.proofs.calls.make_calls.Given as goal

abbrev pub invariant-loop-number : goal.invariant-loop-number
invariant-loop-number l =
    let drawn = draw_each (draw_calls l.atoms.size) l.number l.initial.draws.state in
    (l.calls.items ≡ Enrol ∷ flat_map (λ calls. calls) drawn.value) × (l.draws.state ≡ drawn.state)
