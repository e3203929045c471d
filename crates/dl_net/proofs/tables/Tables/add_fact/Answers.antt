use Rattle.std.proofs.Common.{ℕ, Some, refl, sym, ap, subst, ◌∙◌, arith}
use Rattle.dl_theory.specs.declared.edit.Edit.TheVariants.{AddFact}
use Rattle.dl_pages.specs.Paged.{Owns}
use Rattle.dl_names.proofs.NameLemmas.{number_found}
use Rattle.dl_net.specs.Kept.{lists_of}
use Rattle.dl_net.proofs.FactLemmas.{with_fact, fact_listed, theory_with, tables_with}
use Rattle.dl_net.proofs.EditLemmas.{made}
use Rattle.dl_net.proofs.tables.Tables.add_fact.Goals as goal

pub put-requires-clause-ready : goal.put-requires-clause-ready
put-requires-clause-ready c =
    let at = number_found c.args.self.now.names.literals c.args.fact.now c.in-Some.number c.find.ensures.distinct (sym c.in-Some.ensures.number) in
    c.requires.room.ready ∙ ap Some at

pub put-requires-clause-new : goal.put-requires-clause-new
put-requires-clause-new c = λ m.
    let at = number_found c.args.self.now.names.literals c.args.fact.now c.in-Some.number c.find.ensures.distinct (sym c.in-Some.ensures.number) in
    c.requires.accepted.0 (fact_listed (lists_of c.args.self.now) c.requires.kept.tables c.args.fact.now c.in-Some.number c.requires.room.named (sym at) m)

pub put-off-requires : goal.put-off-requires
put-off-requires c =
    let at = number_found c.args.self.now.names.literals c.args.fact.now c.in-Some.number c.find.ensures.distinct (sym c.in-Some.ensures.number) in
    subst (λ (n : ℕ). Owns c.args.self.now.marks n) at c.requires.room.owned

pub returns : goal.returns
returns c =
    let t = lists_of c.args.self.now in
    let q = c.args.fact.now in
    let n = c.in-Some.number in
    let at = number_found c.args.self.now.names.literals q n c.find.ensures.distinct (sym c.in-Some.ensures.number) in
    made c.args.self.now (record c.args.self.now { facts = c.put.new.self; marks = c.put-off.new.self }) (AddFact q) (with_fact t n)
    (λ i. record t { facts = c.put.ensures.items i; marks = c.put-off.ensures.items i })
    (tables_with t c.requires.kept.tables q n c.requires.room.named (sym at) c.requires.accepted (omega (arith, at, c.requires.room.marked)))
    (theory_with t c.requires.kept.tables q n c.requires.room.named (sym at)) refl refl c.requires.kept.order
    (record { label = c.requires.room.settled.label; pair = c.requires.room.settled.pair })
