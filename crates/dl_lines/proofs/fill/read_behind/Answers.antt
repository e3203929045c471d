use Rattle.std.proofs.Common.{◌≡◌, ◌+◌, ◌-◌, drop, length, arith, length-drop, length-take-le, ◌∙◌}
use Rattle.dl_lines.proofs.Room.{behind}
use Rattle.dl_lines.proofs.fill.read_behind.Goals as goal

pub returns-clause-more : goal.returns-clause-more
returns-clause-more g c =
    let room = c.args.room.now in
    let held = c.args.held in
    let want = c.args.want in
    let size : length c.read.new.room ≡ want = c.read.auto.room ∙ length-take-le (held + want - held) (drop held room) (omega (arith, c.requires.within, length-drop held room)) ∙ omega arith in
    behind (g.S.Source.rest c.args.source.now) (g.S.Source.rest c.read.new.self) room c.read.new.room _ held want c.read.result c.requires.some (omega (arith, c.requires.within)) size c.read.ensures.bound c.read.ensures.bytes
