use Rattle.dl_read.specs.Files.{without_cr}
use Rattle.dl_request.proofs.Deciding.{one_thing}
use Rattle.dl_request.proofs.laws.lines_ask_for_one_thing.Goals as goal

pub returns : goal.returns
returns c = λ line. one_thing (without_cr line)
