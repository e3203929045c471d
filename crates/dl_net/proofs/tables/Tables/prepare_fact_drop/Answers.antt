use Rattle.std.proofs.Common.{ap, arith}
use Rattle.std.specs.Prelude.{Contains, is_some}
use Rattle.std.proofs.lemmas.List.Elements.{All-contains}
use Rattle.dl_net.specs.Kept.{lists_of, theory_in}
use Rattle.dl_net.proofs.NetLemmas.{fact_marked, names_distinct}
use Rattle.dl_graph.specs.Tables.{net_of}
use Rattle.dl_net.proofs.FactLemmas.{fact_numbered}
use Rattle.dl_net.proofs.tables.Tables.prepare_fact_drop.Goals as goal

pub own-requires-clause-within : goal.own-requires-clause-within
own-requires-clause-within c =
    let T = theory_in c.args.self.now in
    let fact : Contains T.facts c.args.fact.now = c.find_fact.ensures.fact.0 (ap is_some c.in-Some.is) in
    let named = All-contains (Contains c.args.self.now.names.literals) T.facts c.args.fact.now c.requires.kept.tables.tables.facts_named fact in
    let lt =
    fact_marked c.args.self.now.names.literals T.facts c.args.self.now.marks.items c.args.fact.now (names_distinct (net_of (lists_of c.args.self.now)) c.requires.kept.tables.numbered)
    named fact c.requires.kept.tables.tables.facts in
    omega (arith, c.in-Some.ensures.number, lt)

pub prepare_drop-requires : goal.prepare_drop-requires
prepare_drop-requires c =
    let T = theory_in c.args.self.now in
    let fact : Contains T.facts c.args.fact.now = c.find_fact.ensures.fact.0 (ap is_some c.in-Some.is) in
    let named = All-contains (Contains c.args.self.now.names.literals) T.facts c.args.fact.now c.requires.kept.tables.tables.facts_named fact in
    fact_numbered (lists_of c.args.self.now) c.requires.kept.tables c.args.fact.now c.in-Some.number named c.in-Some.ensures.number fact
