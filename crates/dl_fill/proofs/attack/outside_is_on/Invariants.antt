use Rattle.std.proofs.Common.{◌≡◌, ◌-◌, ◌≤◌, ◌||◌, true, length, drop}
use Rattle.std.specs.List.{list_all}
use Rattle.dl_marks.specs.Marks.{marked}
use Rattle.dl_graph.specs.Numbers.{back}
use Rattle.dl_graph.specs.declared.link.Link.TheVariants.{Uses}
use Rattle.dl_fill.specs.Before.{tag_of, is_inside, before_of, outside_is_on}
use Rattle.dl_fill.proofs.attack.outside_is_on.Given as goal

abbrev pub invariant-loop-literal : goal.invariant-loop-literal
invariant-loop-literal l = record {
  rest : outside_is_on l.net (before_of l.marks l.region) l.fn.family l.rule ≡ list_all (λ i. is_inside l.region.members i || marked l.marks (tag_of true l.fn.family) i) (drop l.at (back l.net Uses l.rule));
  within : l.at ≤ length (back l.net Uses l.rule);
}

abbrev pub decreases-loop-literal : goal.decreases-loop-literal
decreases-loop-literal l = length (back l.net Uses l.rule) - l.at
