use Rattle.std.proofs.Common.{◌≡◌}
use Rattle.dl_draw.specs.Generator.{draw_each, draw_literal}
use Rattle.dl_draw.proofs.atoms.Atoms.draw_body.Given as goal

abbrev pub invariant-loop-at : goal.invariant-loop-at
invariant-loop-at l =
    let drawn = draw_each (λ _. draw_literal l.self.size l.atom) l._at l.initial.draws.state in
    (l.body ≡ drawn.value) × (l.draws.state ≡ drawn.state)
