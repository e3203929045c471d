use Rattle.std.proofs.Common.{Some, sym, ◌∙◌}
use Rattle.std.specs.Prelude.{Err}
use Rattle.std.proofs.lemmas.Result.{on_ok_weaker}
use Rattle.dl_theory.specs.declared.edit.Edit.TheVariants.{AddRule}
use Rattle.dl_read.specs.Files.{placed}
use Rattle.dl_read.proofs.Loading.{take_none, take_accepted, take_answered}
use Rattle.dl_read.proofs.loader.Loader.add_rule.Goals as goal

pub returns-then-has_refused-clause-taken : goal.returns-then-has_refused-clause-taken
returns-then-has_refused-clause-taken g c = λ ps h.
    take_none c.args.self.now.refused (g.T.Loading.lists c.args.self.now.target) ps (placed c.args.line (Some (AddRule c.args.rule)))
    (sym c.has_refused.ensures ∙ c.if-has_refused.true) h

pub returns-in-Ok-None-clause-taken : goal.returns-in-Ok-None-clause-taken
returns-in-Ok-None-clause-taken g c = λ ps h.
    take_accepted c.args.self.now.refused (g.T.Loading.lists c.args.self.now.target) (g.T.Loading.lists c.add_rule.new.self) ps c.args.line
    (AddRule c.args.rule) (sym c.has_refused.ensures ∙ c.if-has_refused.false) (rw c.in-Ok-None.is at c.add_rule.ensures) h

pub returns-in-Ok-Some-clause-taken : goal.returns-in-Ok-Some-clause-taken
returns-in-Ok-Some-clause-taken g c = λ ps h.
    take_accepted c.args.self.now.refused (g.T.Loading.lists c.args.self.now.target) (g.T.Loading.lists c.add_rule.new.self) ps c.args.line
    (AddRule c.args.rule) (sym c.has_refused.ensures ∙ c.if-has_refused.false) (rw c.in-Ok-Some.is at c.add_rule.ensures) h

pub returns-in-Err-clause-taken : goal.returns-in-Err-clause-taken
returns-in-Err-clause-taken g c =
    on_ok_weaker c.note.result
    (λ noted ps h. take_answered c.args.self.now.refused c.note.new.refused (g.T.Loading.lists c.args.self.now.target)
    (g.T.Loading.lists c.add_rule.new.self) ps c.args.line (AddRule c.args.rule) (Err c.in-Err.stop)
    (sym c.has_refused.ensures ∙ c.if-has_refused.false) (rw c.in-Err.is at c.add_rule.ensures) noted h)
    c.note.ensures
