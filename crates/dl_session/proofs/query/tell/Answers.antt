use Rattle.std.proofs.Common.{refl}
use Rattle.dl_session.proofs.query.tell.Goals as goal

pub returns-in_ok-answer-in-Ask : goal.returns-in_ok-answer-in-Ask
returns-in_ok-answer-in-Ask c = rw c.in-Ask.is (c.in_ok-answer-in-Ask.answer, c.in_ok-answer-in-Ask.ensures, refl)
