use Rattle.std.proofs.Common.{None, Option, get_or, sym, ap, ◌∙◌}
use Rattle.std.specs.Prelude.{unwrap_or}
use Rattle.dl_theory.specs.Lists.{can_support}
use Rattle.dl_rules.specs.Lines.{Line, no_line}
use Rattle.dl_rules.proofs.ThereLemmas.{found_none, found_kind}
use Rattle.dl_rules.proofs.index.Index.supports.Goals as goal

pub returns-in-None : goal.returns-in-None
returns-in-None c =
    sym (ap (λ (o : Option Line). can_support (unwrap_or o no_line).kind)
    (found_none (get_or c.args.self.now.lines c.args.rule None) (sym c.in-None.is ∙ c.find.ensures)))

pub returns-in-Some : goal.returns-in-Some
returns-in-Some c =
    c.can_support.ensures ∙ ap can_support (found_kind (get_or c.args.self.now.lines c.args.rule None) c.in-Some.kind (sym c.in-Some.is ∙ c.find.ensures))
