-- How a theory that is concluded keeps its conclusions.
use Rattle.std.specs.Prelude.{◌≤◌, List, length, map}
use Rattle.dl_marks.specs.Marks.{places}
use Rattle.dl_fill.specs.Filled.{IsRight}
use Rattle.dl_conclusions.specs.declared.conclusion.Conclusion.{Conclusion}
use Rattle.dl_conclusions.specs.declared.concluded.Concluded.TheInside.{Inside}
use Rattle.dl_conclusions.specs.Conclusions.{conclusion_at}
use Rattle.dl_conclusions.specs.Orders.{IsOrder}

abbrev pub conclusions_by : Inside → List Conclusion
conclusions_by e = map (conclusion_at e.net e.marks e.family) e.order.items

pub record IsKeptConcluded (e : Inside) : Type 0 where
  pub order : IsOrder e.net e.order.items
  pub room : length e.net.names ≤ places e.marks
  pub right : IsRight e.net e.marks e.family
