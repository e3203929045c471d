use Rattle.std.proofs.Common.{◌≡◌, ◌∷◌, decimal, rules}
use Rattle.dl_draw.proofs.Spelling.{numbered_name}
use Rattle.dl_draw.proofs.names.numbered.Goals as goal

pub from_spelled-requires : goal.from_spelled-requires
from_spelled-requires c =
    let text : c.as_slice.result.now ≡ c.args.letter ∷ decimal c.args.number = search rules in
    rw text (numbered_name c.args.letter c.args.number c.requires c.ranges.number.fits)
