use Rattle.dl_lines.proofs.Cuts.{raw_some, raw_clear, raw_joined}
use Rattle.dl_lines.proofs.laws.lines_are_the_bytes.Goals as goal

pub returns : goal.returns
returns c = λ bytes. (raw_some bytes, raw_clear bytes, raw_joined bytes)
