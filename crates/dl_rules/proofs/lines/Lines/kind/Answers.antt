use Rattle.std.proofs.Common.{None, get_or, sym, ap, ◌∙◌, true≢false}
use Rattle.std.specs.Prelude.{is_some}
use Rattle.dl_rules.proofs.ThereLemmas.{found_none, found_kind}
use Rattle.dl_rules.proofs.lines.Lines.kind.Goals as goal

pub unreachable-requires : goal.unreachable-requires
unreachable-requires c =
    true≢false (sym c.requires ∙ ap is_some (found_none (get_or c.args.self.now.items c.args.rule None) (sym c.in-None.is ∙ c.find.ensures)))

pub returns : goal.returns
returns c = found_kind (get_or c.args.self.now.items c.args.rule None) c.in-Some.kind (sym c.in-Some.is ∙ c.find.ensures)
