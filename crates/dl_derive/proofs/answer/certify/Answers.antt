use Rattle.std.proofs.Common.{sym, ◌∙◌}
use Rattle.dl_derive.proofs.Answered.{found}
use Rattle.dl_derive.proofs.answer.certify.Goals as goal

pub certify_number-requires-clause-literal : goal.certify_number-requires-clause-literal
certify_number-requires-clause-literal c = (found c.args.net.now c.args.literal.now c.in-Some.number (sym c.find.ensures.number ∙ c.in-Some.is)).1
