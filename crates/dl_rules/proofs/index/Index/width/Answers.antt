use Rattle.std.proofs.Common.{length, get_or, None, refl, sym, ap, ◌∙◌, arith}
use Rattle.dl_rules.specs.Lines.{uses_row}
use Rattle.dl_rules.proofs.PlaceLemmas.{row_at}
use Rattle.dl_rules.proofs.ThereLemmas.{use_once}
use Rattle.dl_rows.proofs.RowLemmas.{row_past}
use Rattle.dl_rules.proofs.index.Index.width.Goals as goal

pub returns-then-rule-len-clause-width : goal.returns-then-rule-len-clause-width
returns-then-rule-len-clause-width c = sym (ap length (row_past uses_row c.args.self.now.lines c.args.rule (omega arith)))

pub returns-clause-width : goal.returns-clause-width
returns-clause-width c =
    ap length c.each_once.ensures.numbers ∙ sym (ap length (row_at uses_row c.args.self.now.lines c.args.rule None refl ∙ use_once (get_or c.args.self.now.lines c.args.rule None)))
