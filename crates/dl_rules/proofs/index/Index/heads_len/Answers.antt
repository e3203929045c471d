use Rattle.std.proofs.Common.{◌≡◌, ◌≤◌, length, ap, subst, ◌∙◌, arith}
use Rattle.dl_rows.specs.Rows.{places}
use Rattle.dl_rules.specs.Lines.{IndexLists, heads_row}
use Rattle.dl_rules.proofs.PlaceLemmas.{heads_few}
use Rattle.dl_rules.proofs.index.Index.heads_len.Goals as goal

pub returns-clause-value : goal.returns-clause-value
returns-clause-value c =
    subst (λ (v : IndexLists). c.count.result ≡ length (places heads_row v.lines c.args.number)) c.self.view_is
    (c.count.ensures ∙ ap length (c.self.invariant.rules.by_head c.args.number))

pub returns-clause-few : goal.returns-clause-few
returns-clause-few c =
    subst (λ (v : IndexLists). c.count.result ≤ length v.lines) c.self.view_is
    (omega (arith, c.count.ensures, ap length (c.self.invariant.rules.by_head c.args.number), heads_few c.self.inside.lines.items c.args.number))
