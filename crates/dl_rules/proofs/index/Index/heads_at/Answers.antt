use Rattle.std.proofs.Common.{◌≡◌, ℕ, List, ap, subst, ◌∙◌}
use Rattle.std.specs.Prelude.{slice_get}
use Rattle.dl_rows.specs.Rows.{places}
use Rattle.dl_rules.specs.Lines.{IndexLists, heads_row}
use Rattle.dl_rules.proofs.index.Index.heads_at.Goals as goal

pub returns : goal.returns
returns c =
    subst (λ (v : IndexLists). c.number_at.result ≡ slice_get (places heads_row v.lines c.args.number) c.args.at) c.self.view_is
    (c.number_at.ensures ∙ ap (λ (xs : List ℕ). slice_get xs c.args.at) (c.self.invariant.rules.by_head c.args.number))
