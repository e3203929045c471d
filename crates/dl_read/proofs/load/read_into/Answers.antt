use Rattle.std.proofs.Common.{subst, sym}
use Rattle.dl_read.specs.Files.{Loads}
use Rattle.dl_read.proofs.Unique.{answer_loads, answer_stops}
use Rattle.dl_read.proofs.TheoryText.{text_loads}
use Rattle.dl_read.proofs.load.read_into.Goals as goal

pub returns-clause-loads : goal.returns-clause-loads
returns-clause-loads g c =
    answer_loads g.T.Loading.lists c.args.bytes.now c.read_lines.result c.read_lines.ensures.loaded c.read_lines.ensures.stopped

pub returns-clause-stops : goal.returns-clause-stops
returns-clause-stops g c = answer_stops g.T.Loading.lists c.args.bytes.now c.read_lines.result c.read_lines.ensures.loaded

pub returns-clause-canonical : goal.returns-clause-canonical
returns-clause-canonical g c = λ U w n e.
    answer_loads g.T.Loading.lists c.args.bytes.now c.read_lines.result c.read_lines.ensures.loaded c.read_lines.ensures.stopped U
    (subst (λ bytes. Loads bytes U) (sym e) (text_loads U w n))
