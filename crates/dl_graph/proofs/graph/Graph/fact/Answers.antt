use Rattle.std.proofs.Common.{◌≡◌, List, None, Some, get_or, sym, ap, subst, ◌∙◌}
use Rattle.std.specs.Prelude.{option_map}
use Rattle.std.proofs.lemmas.Option.{slice_get-get_or}
use Rattle.dl_lit.specs.declared.literal.Literal.{Literal}
use Rattle.dl_lit.specs.Borrowed.{literal_of}
use Rattle.dl_graph.specs.Numbers.{NetLists, no_literal}
use Rattle.dl_graph.specs.Tables.{literal_in}
use Rattle.dl_graph.proofs.ReadLemmas.{slot_map}
use Rattle.dl_graph.proofs.graph.Graph.fact.Goals as goal

pub returns-in-Some : goal.returns-in-Some
returns-in-Some c =
    let ls : List Literal = c.self.inside.names.now.literals in
    let here : get_or c.self.inside.facts.now.items c.args.number None ≡ Some c.in-Some.literal = sym c.at.ensures ∙ c.in-Some.is in
    subst (λ (v : NetLists). option_map literal_of c.literal.result ≡ get_or v.facts c.args.number None) c.self.view_is
    (c.literal.ensures
    ∙ slice_get-get_or ls c.in-Some.literal no_literal (c.self.invariant.facts_within c.in-Some.literal c.args.number here)
    ∙ sym (slot_map (literal_in ls) c.self.inside.facts.now.items c.args.number ∙ ap (option_map (literal_in ls)) here))
