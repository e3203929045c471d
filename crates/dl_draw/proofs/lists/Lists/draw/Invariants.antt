use Rattle.std.proofs.Common.{◌≡◌, fold}
use Rattle.dl_theory.specs.Lists.{no_lists}
use Rattle.dl_draw.specs.Generator.{draw_each, draw_part, beside}
use Rattle.dl_draw.proofs.lists.Lists.draw.Given as goal

abbrev pub invariant-loop-atom : goal.invariant-loop-atom
invariant-loop-atom l =
    let drawn = draw_each (draw_part l.atoms.size) l.atom l.initial.draws.state in
    (l.lists ≡ fold beside no_lists drawn.value) × (l.draws.state ≡ drawn.state)
