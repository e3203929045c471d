use Rattle.std.proofs.Common.{sym, subst}
use Rattle.dl_request.specs.declared.keyword.Keyword.{Keyword}
use Rattle.dl_request.specs.Reading.{Finds}
use Rattle.dl_request.proofs.read.behind.Goals as goal

pub returns-in-Hold-clause-found : goal.returns-in-Hold-clause-found
returns-in-Hold-clause-found c = subst (λ (k : Keyword). Finds k c.args.rest.now c.hold.result) (sym c.in-Hold.is) c.hold.ensures

pub returns-in-Text-clause-found : goal.returns-in-Text-clause-found
returns-in-Text-clause-found c = subst (λ (k : Keyword). Finds k c.args.rest.now c.text.result) (sym c.in-Text.is) c.text.ensures

pub returns-in-Conclusions-clause-found : goal.returns-in-Conclusions-clause-found
returns-in-Conclusions-clause-found c = subst (λ (k : Keyword). Finds k c.args.rest.now c.conclusions.result) (sym c.in-Conclusions.is) c.conclusions.ensures
