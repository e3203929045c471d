use Rattle.std.proofs.Common.{◌≡◌, length, ap, subst, ◌∙◌}
use Rattle.dl_rows.specs.Rows.{places}
use Rattle.dl_rules.specs.Lines.{IndexLists, uses_row}
use Rattle.dl_rules.proofs.index.Index.uses_len.Goals as goal

pub returns : goal.returns
returns c =
    subst (λ (v : IndexLists). c.count.result ≡ length (places uses_row v.lines c.args.number)) c.self.view_is
    (c.count.ensures ∙ ap length (c.self.invariant.rules.by_use c.args.number))
