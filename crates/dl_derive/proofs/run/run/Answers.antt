use Rattle.std.proofs.Common.{refl, arith}
use Rattle.dl_derive.proofs.run.run.Goals as goal

pub solve-requires-clause-width : goal.solve-requires-clause-width
solve-requires-clause-width g c = rw (c.width-width.ensures.width, c.literals.ensures) c.width-width.ensures.sound.table.rules

pub solve-requires-clause-kinds : goal.solve-requires-clause-kinds
solve-requires-clause-kinds g c = rw (c.width-width.ensures.width, c.wires.ensures) c.width-width.ensures.sound.table.kinds

pub solve-requires-clause-wires : goal.solve-requires-clause-wires
solve-requires-clause-wires g c = rw (c.wires.ensures) c.width-width.ensures.sound.table.few

pub returns : goal.returns
returns g c = record {
  run = rw (c.width-width.ensures.width, c.literals.ensures, c.wires.ensures) at c.solve.ensures.run;
  size = rw (c.solve.ensures.size, c.in_ok-parts.ensures.size, c.solve.ensures.bound, c.in_ok-parts.ensures.bound, c.width-width.ensures.width) refl;
  names = omega (arith, c.places_of.ensures.names, c.solve.ensures.bound, c.in_ok-parts.ensures.bound);
  rules = omega (arith, c.places_of.ensures.rules, c.solve.ensures.bound, c.in_ok-parts.ensures.bound);
}
