use Rattle.std.proofs.Common.{ℕ, Some, refl, sym, ap, subst, ◌∙◌}
use Rattle.dl_theory.specs.declared.edit.Edit.TheVariants.{DropFact}
use Rattle.dl_pages.specs.Paged.{Owns}
use Rattle.dl_names.proofs.NameLemmas.{number_found}
use Rattle.dl_net.specs.Kept.{lists_of}
use Rattle.dl_net.proofs.FactLemmas.{without_fact, theory_without, tables_without}
use Rattle.dl_net.proofs.EditLemmas.{made}
use Rattle.dl_net.proofs.tables.Tables.drop_fact.Goals as goal

pub unreachable-requires : goal.unreachable-requires
unreachable-requires c = c.in-None.ensures.absent c.requires.room.named

pub drop_fact-requires : goal.drop_fact-requires
drop_fact-requires c =
    let at = number_found c.args.self.now.names.literals c.args.fact.now c.in-Some.number c.find.ensures.distinct (sym c.in-Some.ensures.number) in
    c.requires.room.leaving ∙ ap Some at

pub put-on-requires : goal.put-on-requires
put-on-requires c =
    let at = number_found c.args.self.now.names.literals c.args.fact.now c.in-Some.number c.find.ensures.distinct (sym c.in-Some.ensures.number) in
    subst (λ (n : ℕ). Owns c.args.self.now.marks n) at c.requires.room.owned

pub returns : goal.returns
returns c =
    let t = lists_of c.args.self.now in
    let q = c.args.fact.now in
    let n = c.in-Some.number in
    let gone = c.drop_fact.ensures.items in
    let at = number_found c.args.self.now.names.literals q n c.find.ensures.distinct (sym c.in-Some.ensures.number) in
    made c.args.self.now (record c.args.self.now { facts = c.drop_fact.new.self; marks = c.put-on.new.self }) (DropFact q) (without_fact t n gone.0)
    (λ i. record t { facts = gone.2 i; marks = c.put-on.ensures.items i })
    (tables_without t c.requires.kept.tables q n c.requires.room.named (sym at) gone.0 gone.1 c.requires.accepted)
    (theory_without t c.requires.kept.tables q n c.requires.room.named (sym at) gone.0 gone.1) refl refl c.requires.kept.order
    (record { label = c.requires.room.settled.label; pair = c.requires.room.settled.pair })
