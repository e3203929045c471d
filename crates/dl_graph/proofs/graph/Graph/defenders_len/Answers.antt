use Rattle.std.proofs.Common.{◌≡◌, ℕ, Bool, List, length, ap, subst, ◌∙◌, arith}
use Rattle.std.specs.Prelude.{filter}
use Rattle.dl_theory.specs.Lists.{can_support, IsWellFormed}
use Rattle.dl_rows.specs.Rows.{row}
use Rattle.dl_rows.specs.Tables.{list_of}
use Rattle.dl_rules.specs.Lines.{Line, IndexLists, line_at}
use Rattle.dl_graph.specs.Numbers.{NetLists, IsNumbered, of_rule, uppers_row}
use Rattle.dl_graph.specs.Tables.{HasIndex}
use Rattle.dl_graph.specs.KeptGraph.{graph_of}
use Rattle.dl_graph.proofs.ReadLemmas.{uppers_read, line_is}
use Rattle.dl_graph.proofs.UpperLemmas.{uppers_short, uppers_filtered}
use Rattle.dl_graph.proofs.graph.Graph.defenders_len.Goals as goal

counted : (N : NetLists) (x : IndexLists) (rule : ℕ) → IsWellFormed N.theory → IsNumbered N → HasIndex N x
    → length (filter (λ t. can_support (line_at x.lines t).kind) (list_of x.uppers rule))
    ≡ length (row (of_rule (uppers_row N (λ t. can_support t.kind))) N.rules rule)
counted N x rule formed numbered h =
    let P : ℕ → Bool = λ t. can_support (line_at x.lines t).kind in
    ap (λ (xs : List ℕ). length (filter P xs)) (uppers_read N x h rule)
    ∙ ap length (uppers_filtered N formed numbered P (λ t r. ap (λ (l : Line). can_support l.kind) (line_is N x h t r)) rule)

pub returns-clause-value : goal.returns-clause-value
returns-clause-value c =
    subst (λ (v : NetLists). c.upper_count.result ≡ length (row (of_rule (uppers_row v (λ t. can_support t.kind))) v.rules c.args.rule)) c.self.view_is
    (c.upper_count.ensures
    ∙ counted (graph_of c.self.inside) c.self.inside.index.now c.args.rule c.self.invariant.formed c.self.invariant.numbered c.self.invariant.tables.index)

pub returns-clause-few : goal.returns-clause-few
returns-clause-few c =
    let N : NetLists = graph_of c.self.inside in
    omega (
      arith,
      c.upper_count.ensures,
      counted N c.self.inside.index.now c.args.rule c.self.invariant.formed c.self.invariant.numbered c.self.invariant.tables.index,
      uppers_short N c.self.invariant.formed c.self.invariant.numbered (λ t. can_support t.kind) c.args.rule,
    )
