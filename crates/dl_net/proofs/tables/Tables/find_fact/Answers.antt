use Rattle.std.proofs.Common.{◌≡◌, ◌<◌, ◌≤◌, false, length, refl, sym, ap, ◌∙◌, arith}
use Rattle.std.specs.Prelude.{Contains}
use Rattle.std.specs.Set.{is_member}
use Rattle.std.proofs.lemmas.List.{get_or_default, get_or_past}
use Rattle.std.proofs.lemmas.List.Elements.{All-contains}
use Rattle.std.proofs.lemmas.Map.Made.{is_member-Decides}
use Rattle.dl_lit.specs.Literal.{literal_eq}
use Rattle.dl_lit.specs.Order.{literal_eq-Decides}
use Rattle.dl_names.proofs.NameLemmas.{found_at, number_found}
use Rattle.dl_graph.specs.Numbers.{no_literal}
use Rattle.dl_net.specs.Kept.{theory_in}
use Rattle.dl_net.proofs.tables.Tables.find_fact.Goals as goal

pub returns-in-None-clause-fact : goal.returns-in-None-clause-fact
returns-in-None-clause-fact c = (
  λ e. cc,
  λ m. absurd
      (c.in-None.ensures.absent
      (All-contains (Contains c.args.self.now.names.literals) (theory_in c.args.self.now).facts c.args.fact.now c.requires.tables.tables.facts_named m)),
)

pub returns-then-number-len-clause-fact : goal.returns-then-number-len-clause-fact
returns-then-number-len-clause-fact c =
    let facts = (theory_in c.args.self.now).facts in
    let marks = c.args.self.now.marks.items in
    let n = c.in-Some.number in
    let at = found_at c.args.self.now.names.literals c.args.fact.now n (sym c.in-Some.ensures.number) in
    let past : length marks ≤ n = omega (arith, c.if-number-len.true, c.len.ensures.items) in
    let off : is_member literal_eq facts c.args.fact.now ≡ false =
    sym (ap (is_member literal_eq facts) (at.1 no_literal)) ∙ sym (c.requires.tables.tables.facts.marked n at.0) ∙ get_or_past marks n false past in
    let told = is_member-Decides literal_eq-Decides facts c.args.fact.now in
    (λ e. cc, λ m. let on = told.1 m in cc)

-- the mark of a number tells whether its literal is a fact
pub returns-then-marked-clause-fact : goal.returns-then-marked-clause-fact
returns-then-marked-clause-fact c =
    let facts = (theory_in c.args.self.now).facts in
    let marks = c.args.self.now.marks.items in
    let n = c.in-Some.number in
    let at = found_at c.args.self.now.names.literals c.args.fact.now n (sym c.in-Some.ensures.number) in
    let lt : n < length marks = omega (arith, c.if-number-len.false, c.len.ensures.items) in
    let read : c.at-marked.result.now ≡ is_member literal_eq facts c.args.fact.now =
    c.at-marked.ensures ∙ get_or_default marks n c.at-marked.result.now false lt ∙ c.requires.tables.tables.facts.marked n at.0 ∙ ap (is_member literal_eq facts) (at.1 no_literal) in
    let told = is_member-Decides literal_eq-Decides facts c.args.fact.now in
    (λ e. told.0 (sym read ∙ c.if-marked.true), λ m. refl)

pub returns-then-marked-clause-number : goal.returns-then-marked-clause-number
returns-then-marked-clause-number c =
    sym (number_found c.args.self.now.names.literals c.args.fact.now c.in-Some.number c.find.ensures.distinct (sym c.in-Some.ensures.number))

pub returns-else-marked-clause-fact : goal.returns-else-marked-clause-fact
returns-else-marked-clause-fact c =
    let facts = (theory_in c.args.self.now).facts in
    let marks = c.args.self.now.marks.items in
    let n = c.in-Some.number in
    let at = found_at c.args.self.now.names.literals c.args.fact.now n (sym c.in-Some.ensures.number) in
    let lt : n < length marks = omega (arith, c.if-number-len.false, c.len.ensures.items) in
    let read : c.at-marked.result.now ≡ is_member literal_eq facts c.args.fact.now =
    c.at-marked.ensures ∙ get_or_default marks n c.at-marked.result.now false lt ∙ c.requires.tables.tables.facts.marked n at.0 ∙ ap (is_member literal_eq facts) (at.1 no_literal) in
    let told = is_member-Decides literal_eq-Decides facts c.args.fact.now in
    (λ e. cc, λ m. let on = read ∙ told.1 m in let off = c.if-marked.false in cc)
