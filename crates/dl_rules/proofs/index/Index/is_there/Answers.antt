use Rattle.std.proofs.Common.{None, get_or, sym, ap, ◌∙◌}
use Rattle.std.specs.Prelude.{is_some}
use Rattle.dl_rules.proofs.ThereLemmas.{found_none, found_there}
use Rattle.dl_rules.proofs.index.Index.is_there.Goals as goal

pub returns-in-None : goal.returns-in-None
returns-in-None c = sym (ap is_some (found_none (get_or c.args.self.now.lines c.args.number None) (sym c.in-None.is ∙ c.find.ensures)))

pub returns-in-Some : goal.returns-in-Some
returns-in-Some c = sym (found_there (get_or c.args.self.now.lines c.args.number None) c.in-Some.field-0 (sym c.in-Some.is ∙ c.find.ensures))
