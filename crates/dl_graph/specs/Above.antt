-- Which rules one pair puts below a rule, and above one.
use Rattle.std.specs.Prelude.{ℕ, true, ◌&&◌, cond, List, []}
use Rattle.std.specs.Str.{bytes_eq}
use Rattle.dl_theory.specs.declared.rule.Rule.{Rule}
use Rattle.dl_theory.specs.declared.rule.Pair.{Pair}
use Rattle.dl_theory.specs.Tests as test
use Rattle.dl_graph.specs.Numbers.{NetLists, labelled}

abbrev pub lower_step : NetLists → Pair → Rule → List ℕ
lower_step N p t = cond (bytes_eq p.upper t.label) (labelled N p.lower (test.is_opposing N.theory t.head)) []

abbrev pub upper_step : NetLists → Pair → Rule → List ℕ
upper_step N p u = cond (bytes_eq p.lower u.label) (labelled N p.upper (λ t. test.is_opposing N.theory t.head u && true)) []
