use Rattle.std.proofs.Common.{[], List, map, sym, ap, subst, ◌∙◌}
use Rattle.dl_base.specs.Paths.{IsDistinct}
use Rattle.dl_lit.specs.declared.literal.Literal.{Literal}
use Rattle.dl_sup.specs.declared.link.Link.{Link}
use Rattle.dl_names.specs.Paired.{IsPaired}
use Rattle.dl_graph.specs.Numbers.{NetLists}
use Rattle.dl_graph.specs.Tables.{net_of}
use Rattle.dl_net.specs.Linking.{AreRules, ArePairs}
use Rattle.dl_net.specs.Loading.{tables_of}
use Rattle.dl_net.proofs.LoadLemmas.{are_rules, are_pairs, empty_rows, are_tables}
use Rattle.dl_net.proofs.load.index_of.Goals as goal

pub returns-clause-tables : goal.returns-clause-tables
returns-clause-tables c = λ a names lines pairs h.
    let N : NetLists = net_of (tables_of a) in
    let d : IsDistinct a.names = subst (λ (ls : List Literal). IsDistinct ls) (sym names) c.len.ensures.distinct in
    let p : IsPaired a.names = subst IsPaired (sym names) c.len.ensures.paired in
    let made = c.in_ok-index.ensures in
    let loaded = c.in_ok-load_pairs.ensures in
    let same = made.lines ∙ sym lines in
    let rules : AreRules N c.args.names.now.literals c.in_ok-index.index.lines =
    subst (λ (ls : List Literal). AreRules N ls c.in_ok-index.index.lines) names (are_rules a h d p c.in_ok-index.index.lines same) in
    let links : ArePairs N c.args.pairs.now = subst (λ (ls : List Link). ArePairs N ls) pairs (are_pairs a h d p) in
    let none = ap (map (λ _. [])) (sym lines) ∙ empty_rows a h d p in
    are_tables a h d p c.load_pairs.new.index (loaded.lines ∙ same)
    (loaded.lowers N rules links (made.lowers ∙ none))
    (loaded.uppers N rules links (made.uppers ∙ none))
