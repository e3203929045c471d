use Rattle.std.proofs.Common.{◌∷◌, [], Bool, List, Some, length, refl, sym, ap, subst, ◌∙◌, arith}
use Rattle.dl_pages.specs.Paged.{Owns}
use Rattle.dl_graph.specs.Named.{HasFacts}
use Rattle.dl_names.proofs.NameLemmas.{number_within}
use Rattle.dl_net.specs.Kept.{lists_of, theory_in}
use Rattle.dl_net.proofs.NetLemmas.{facts_counted}
use Rattle.dl_net.proofs.EditLemmas.{keeps_with}
use Rattle.dl_net.proofs.tables.Tables.prepare_fact.Goals as goal

pub returns-then-live-ge-LIMIT-clause-answered : goal.returns-then-live-ge-LIMIT-clause-answered
returns-then-live-ge-LIMIT-clause-answered c =
    (λ m. let yes = c.find_fact.ensures.fact.1 m in cc, omega (arith, facts_counted (lists_of c.args.self.now), c.live.ensures, c.if-live-ge-LIMIT.true))

pub returns-clause-answered : goal.returns-clause-answered
returns-clause-answered c =
    (λ m. let yes = c.find_fact.ensures.fact.1 m in cc, omega (arith, facts_counted (lists_of c.args.self.now), c.live.ensures, c.if-live-ge-LIMIT.false))

pub returns-in_err-number-clause-keeps : goal.returns-in_err-number-clause-keeps
returns-in_err-number-clause-keeps c =
    keeps_with (c.args.fact.now ∷ []) c.args.self.now (record c.args.self.now { names = c.number_fact.new.names; marks = c.number_fact.new.marks; facts = c.args.self.now.facts })
    c.requires.kept (record { labels = refl; facts = refl; pairs = refl; lines = refl; lowers = refl; uppers = refl })
    c.number_fact.ensures.distinct c.number_fact.ensures.paired c.number_fact.ensures.grown
    (c.number_fact.ensures.kept (theory_in c.args.self.now).facts)
    c.requires.kept.order

pub own-requires-clause-within : goal.own-requires-clause-within
own-requires-clause-within c =
    let within = number_within c.number_fact.new.names.literals c.args.fact.now c.number_fact.ensures.distinct c.in_ok-number.ensures.there in
    omega (arith, within.0, c.in_ok-number.ensures.number, c.in_ok-number.ensures.room)

pub prepare-requires : goal.prepare-requires
prepare-requires c =
    let within = number_within c.number_fact.new.names.literals c.args.fact.now c.number_fact.ensures.distinct c.in_ok-number.ensures.there in
    omega (arith, within.0, c.in_ok-number.ensures.number, c.len.ensures.len)

pub returns-in_err-own-clause-keeps : goal.returns-in_err-own-clause-keeps
returns-in_err-own-clause-keeps c =
    keeps_with (c.args.fact.now ∷ []) c.args.self.now (record c.args.self.now { names = c.number_fact.new.names; marks = c.own.new.self; facts = c.args.self.now.facts })
    c.requires.kept (record { labels = refl; facts = refl; pairs = refl; lines = refl; lowers = refl; uppers = refl })
    c.number_fact.ensures.distinct c.number_fact.ensures.paired c.number_fact.ensures.grown
    (λ h. subst (λ (ms : List Bool). HasFacts c.number_fact.new.names.literals (theory_in c.args.self.now).facts ms) (sym c.own.ensures.items)
    (c.number_fact.ensures.kept (theory_in c.args.self.now).facts h))
    c.requires.kept.order

pub returns-in_err-prepare-clause-keeps : goal.returns-in_err-prepare-clause-keeps
returns-in_err-prepare-clause-keeps c =
    keeps_with (c.args.fact.now ∷ []) c.args.self.now (record c.args.self.now { names = c.number_fact.new.names; marks = c.own.new.self; facts = c.prepare.new.self })
    c.requires.kept (record { labels = refl; facts = c.prepare.ensures.items; pairs = refl; lines = refl; lowers = refl; uppers = refl })
    c.number_fact.ensures.distinct c.number_fact.ensures.paired c.number_fact.ensures.grown
    (λ h. subst (λ (ms : List Bool). HasFacts c.number_fact.new.names.literals (theory_in c.args.self.now).facts ms) (sym c.own.ensures.items)
    (c.number_fact.ensures.kept (theory_in c.args.self.now).facts h))
    c.requires.kept.order

pub returns-clause-keeps : goal.returns-clause-keeps
returns-clause-keeps c =
    keeps_with (c.args.fact.now ∷ []) c.args.self.now (record c.args.self.now { names = c.number_fact.new.names; marks = c.own.new.self; facts = c.prepare.new.self })
    c.requires.kept (record { labels = refl; facts = c.prepare.ensures.items; pairs = refl; lines = refl; lowers = refl; uppers = refl })
    c.number_fact.ensures.distinct c.number_fact.ensures.paired c.number_fact.ensures.grown
    (λ h. subst (λ (ms : List Bool). HasFacts c.number_fact.new.names.literals (theory_in c.args.self.now).facts ms) (sym c.own.ensures.items)
    (c.number_fact.ensures.kept (theory_in c.args.self.now).facts h))
    c.requires.kept.order

pub returns-clause-room : goal.returns-clause-room
returns-clause-room c =
    let within = number_within c.number_fact.new.names.literals c.args.fact.now c.number_fact.ensures.distinct c.in_ok-number.ensures.there in
    let number = c.in_ok-number.ensures.number in
    record {
      named = c.in_ok-number.ensures.there;
      marked = omega (arith, within.0, c.in_ok-number.ensures.room, ap length c.own.ensures.items);
      owned = subst (λ n. Owns c.own.new.self n) number c.in_ok-own.ensures.here;
      ready = c.in_ok-prepare.ensures.ready ∙ ap Some number;
      settled = record { label = c.requires.settled.label; pair = c.requires.settled.pair };
    }
