use Rattle.std.proofs.Common.{sym, ap, subst, ◌∙◌, List, [], ◌∷◌, ◌++◌, Some, ℕ}
use Rattle.std.proofs.lemmas.Result.{on_ok_weaker}
use Rattle.dl_theory.specs.declared.edit.Edit.TheVariants.{AddRule, AddFact, AddPair}
use Rattle.dl_read.specs.declared.statement.Statement.{Statement}
use Rattle.dl_read.specs.Files.{addition_of, pair_of}
use Rattle.dl_read.specs.Loading.{held, HasRead}
use Rattle.dl_read.proofs.Loading.{read_blank, read_addition, read_pair}
use Rattle.dl_read.proofs.loader.Loader.load.Goals as goal

pub returns-in-Blank : goal.returns-in-Blank
returns-in-Blank g c = λ ss e h.
    subst (λ (s : Statement). HasRead (held g.T.Loading.lists c.args.self.now) (ss ++ s ∷ [])) (sym c.in-Blank.is)
    (read_blank (held g.T.Loading.lists c.args.self.now) ss c.args.line e h)

pub returns-in-Fact : goal.returns-in-Fact
returns-in-Fact g c =
    let lists = g.T.Loading.lists in
    on_ok_weaker c.add_fact.result
    (λ taken ss e h. read_addition (held lists c.args.self.now) (held lists c.add_fact.new.self) ss c.args.statement c.args.line (AddFact c.in-Fact.fact)
    (ap (addition_of c.args.line) c.in-Fact.is) (ap pair_of c.in-Fact.is) taken (ap (λ ps. ps.items) c.add_fact.ensures.pairs)
    (ap (λ ks. ks.items) c.add_fact.ensures.lines) e h) c.add_fact.ensures.taken

pub returns-in_ok-label-in-Rule : goal.returns-in_ok-label-in-Rule
returns-in_ok-label-in-Rule g c =
    let lists = g.T.Loading.lists in
    on_ok_weaker c.add_rule.result
    (λ taken ss e h. read_addition (held lists c.args.self.now) (held lists c.add_rule.new.self) ss c.args.statement c.args.line
    (AddRule (record { label = c.in_ok-label-in-Rule.label; kind = c.in-Rule.kind; body = c.in-Rule.body; head = c.in-Rule.head }))
    (ap (addition_of c.args.line) c.in-Rule.is
    ∙ ap (λ (l : List ℕ). Some (AddRule (record { label = l; kind = c.in-Rule.kind; body = c.in-Rule.body; head = c.in-Rule.head }))) (sym c.in_ok-label-in-Rule.ensures))
    (ap pair_of c.in-Rule.is) taken (ap (λ ps. ps.items) c.add_rule.ensures.pairs) (ap (λ ks. ks.items) c.add_rule.ensures.lines) e h)
    c.add_rule.ensures.taken

pub returns-in-Pair : goal.returns-in-Pair
returns-in-Pair g c =
    let lists = g.T.Loading.lists in
    on_ok_weaker c.wait.result
    (λ waits ss e h. read_pair (held lists c.args.self.now) (held lists c.wait.new.self) ss c.args.statement c.args.line (AddPair c.in-Pair.pair)
    (ap (addition_of c.args.line) c.in-Pair.is) (ap pair_of c.in-Pair.is) waits (ap lists c.wait.ensures.target) c.wait.ensures.refused e h)
    c.wait.ensures.waits
