use Rattle.std.proofs.Common.{ℕ, List, ap, ◌∙◌}
use Rattle.dl_graph.specs.Tables.{net_of}
use Rattle.dl_net.specs.Kept.{lists_of}
use Rattle.dl_net.proofs.tables.Tables.forget.Goals as goal

pub returns-clause-keeps : goal.returns-clause-keeps
returns-clause-keeps c =
    let k = c.forget_pair.ensures.keeps in
    record {
      kept = k.kept;
      net = k.net ∙ ap (λ (ls : List (List ℕ)). record (net_of (record (lists_of c.args.self.now) { labels = ls })) { names = c.forget_pair.new.self.names.literals })
          c.forget.ensures.labels;
      names = k.names;
    }
