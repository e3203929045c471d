use Rattle.std.proofs.Common.{◌≡◌, ◌-◌, ◌≤◌, length, take}
use Rattle.std.specs.Prelude.{filter}
use Rattle.dl_graph.specs.Numbers.{back}
use Rattle.dl_graph.specs.declared.link.Link.TheVariants.{Uses}
use Rattle.dl_fill.specs.Before.{is_inside}
use Rattle.dl_fill.proofs.gate.inside_len.Given as goal

abbrev pub invariant-loop-literal : goal.invariant-loop-literal
invariant-loop-literal l = record {
  count : l.count ≡ length (filter (is_inside l.region.members) (take l.at (back l.net Uses l.rule)));
  within : l.at ≤ length (back l.net Uses l.rule);
  few : l.count ≤ l.at;
}

abbrev pub decreases-loop-literal : goal.decreases-loop-literal
decreases-loop-literal l = length (back l.net Uses l.rule) - l.at
