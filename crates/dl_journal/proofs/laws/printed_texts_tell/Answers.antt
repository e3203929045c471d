use Rattle.dl_journal.proofs.Printed.{printed_texts_tell}
use Rattle.dl_journal.proofs.laws.printed_texts_tell.Goals as goal

pub returns : goal.returns
returns c = printed_texts_tell
