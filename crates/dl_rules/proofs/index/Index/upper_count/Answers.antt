use Rattle.std.proofs.Common.{◌≡◌, ℕ, List, length, sym, ap, subst, ◌∙◌}
use Rattle.std.specs.Prelude.{All, filter}
use Rattle.dl_theory.specs.Lists.{can_support}
use Rattle.dl_rows.specs.Tables.{list_of}
use Rattle.dl_rules.specs.Lines.{IndexLists, IsThere, line_at}
use Rattle.dl_rules.proofs.LinkLemmas.{upper_past}
use Rattle.dl_rules.proofs.NumberLemmas.{numbered_all}
use Rattle.dl_rules.proofs.index.Index.upper_count.Goals as goal

pub count-requires : goal.count-requires
count-requires c =
    subst (λ (xs : List ℕ). All (IsThere c.self.inside.lines.items) xs) (sym c.row.ensures) (c.self.invariant.links.upper_there c.args.rule)

pub returns : goal.returns
returns c =
    subst (λ (v : IndexLists). c.count.result ≡ length (filter (λ t. can_support (line_at v.lines t).kind) (list_of v.uppers c.args.rule))) c.self.view_is
    (c.count.ensures.value
    ∙ ap (λ (xs : List ℕ). length (filter (λ t. can_support (line_at c.self.inside.lines.items t).kind) xs))
    (c.row.ensures ∙ sym (numbered_all (length c.self.inside.lines.items) c.self.inside.uppers (upper_past c.self.invariant.links) c.args.rule)))
