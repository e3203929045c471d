use Rattle.std.proofs.Common.{[], map, sym, ap, ◌∙◌}
use Rattle.std.specs.Prelude.{is_ok}
use Rattle.dl_theory.specs.Lists.{TheoryLists}
use Rattle.dl_theory.specs.Pairs.{named}
use Rattle.dl_rows.specs.There.{there}
use Rattle.dl_graph.specs.Numbers.{NetLists}
use Rattle.dl_net.specs.Kept.{theory_in}
use Rattle.dl_net.proofs.Renewal.{without_pairs, all_added}
use Rattle.dl_net.proofs.tables.Tables.pairs_anew.Goals as goal

pub returns-in-Ok-clause-named : goal.returns-in-Ok-clause-named
returns-in-Ok-clause-named c =
    let T : TheoryLists = theory_in c.args.self.now in
    let names = named c.args.labels.now.keys in
    all_added T c.as_slice.result.now (map names c.add_labelled.new.self) c.add_labelled.result (ap is_ok c.in-Ok.is)
    (c.add_labelled.ensures.added (record T { pairs = [] }) (without_pairs T c.requires.kept.tables.formed) (sym c.requires.labels)
    (sym (ap (map names) c.make-links.ensures)))
    ∙ c.as_slice.ensures.value ∙ c.in_ok-pairs.ensures ∙ ap (λ (N : NetLists). there N.pairs) c.graph.ensures
