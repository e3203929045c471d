use Rattle.std.proofs.Common.{Some, sym, ◌∙◌}
use Rattle.std.proofs.lemmas.Result.{on_ok_weaker}
use Rattle.dl_theory.specs.declared.edit.Edit.TheVariants.{AddFact}
use Rattle.dl_read.specs.Files.{placed}
use Rattle.dl_read.proofs.Loading.{take_none, take_answered}
use Rattle.dl_read.proofs.loader.Loader.add_fact.Goals as goal

pub returns-then-has_refused-clause-taken : goal.returns-then-has_refused-clause-taken
returns-then-has_refused-clause-taken g c = λ ps h.
    take_none c.args.self.now.refused (g.T.Loading.lists c.args.self.now.target) ps (placed c.args.line (Some (AddFact c.args.fact)))
    (sym c.has_refused.ensures ∙ c.if-has_refused.true) h

pub returns-clause-taken : goal.returns-clause-taken
returns-clause-taken g c =
    on_ok_weaker c.note.result
    (λ noted ps h. take_answered c.args.self.now.refused c.note.new.refused (g.T.Loading.lists c.args.self.now.target)
    (g.T.Loading.lists c.add_fact-answer.new.self) ps c.args.line (AddFact c.args.fact) c.add_fact-answer.result
    (sym c.has_refused.ensures ∙ c.if-has_refused.false) c.add_fact-answer.ensures noted h)
    c.note.ensures
