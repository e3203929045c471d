use Rattle.dl_read.specs.EditLines.{Drops}
use Rattle.dl_read.specs.Tokens.{tokens}
use Rattle.dl_read.specs.Parsing.{dropped_at}
use Rattle.dl_read.proofs.Lines.{reads_by}
use Rattle.dl_read.proofs.Dropped.{dropped_sound, dropped_complete}
use Rattle.dl_read.proofs.edits.read_dropped.Goals as goal

pub returns : goal.returns
returns c =
    reads_by Drops c.args.rest.now (dropped_at (tokens c.args.rest.now)) _ (dropped_sound c.args.rest.now) (dropped_complete c.args.rest.now) c.dropped_answer.ensures
