use Rattle.std.proofs.Common.{◌≡◌, ◌≤◌, ℕ, List, length, sym, ap, subst, ◌∙◌, arith}
use Rattle.std.specs.Prelude.{All, filter}
use Rattle.dl_rows.specs.Rows.{places}
use Rattle.dl_rules.specs.Lines.{IndexLists, IsThere, kind_row, passes, line_at}
use Rattle.dl_rules.proofs.PlaceLemmas.{kinds_are, heads_few, heads_there}
use Rattle.dl_rules.proofs.index.Index.heads_count.Goals as goal

pub count-requires : goal.count-requires
count-requires c =
    subst (λ (xs : List ℕ). All (IsThere c.self.inside.lines.items) xs) (sym (c.row.ensures ∙ c.self.invariant.rules.by_head c.args.number))
    (heads_there c.self.inside.lines.items c.args.number)

pub returns-clause-value : goal.returns-clause-value
returns-clause-value c =
    subst (λ (v : IndexLists). c.count.result ≡ length (places (kind_row c.args.strict) v.lines c.args.number)) c.self.view_is
    (c.count.ensures.value
    ∙ ap (λ (xs : List ℕ). length (filter (λ s. passes c.args.strict (line_at c.self.inside.lines.items s).kind) xs))
    (c.row.ensures ∙ c.self.invariant.rules.by_head c.args.number)
    ∙ ap length (kinds_are c.args.strict c.self.inside.lines.items c.args.number))

pub returns-clause-few : goal.returns-clause-few
returns-clause-few c =
    subst (λ (v : IndexLists). c.count.result ≤ length v.lines) c.self.view_is
    (omega (
      arith,
      c.count.ensures.few,
      ap length (c.row.ensures ∙ c.self.invariant.rules.by_head c.args.number),
      heads_few c.self.inside.lines.items c.args.number,
    ))
