use Rattle.dl_derive.specs.Part.{IsOf}
use Rattle.dl_derive.proofs.Parts.{part_fits}
use Rattle.dl_derive.proofs.answer.certify_part.Goals as goal

pub returns : goal.returns
returns c =
    part_fits (IsOf c.args.net.now c.args.found.now.members) c.args.net.now.theory c.args.small.now.theory c.requires.closed c.requires.part
    c.args.literal.now c.requires.literal c.args.family c.in_ok-answer.answer c.in_ok-answer.ensures
