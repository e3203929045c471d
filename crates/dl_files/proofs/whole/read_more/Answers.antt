use Rattle.std.proofs.Common.{◌≡◌, take, length, arith}
use Rattle.std.proofs.lemmas.Grind.{common_steps}
use Rattle.dl_files.proofs.whole.read_more.Goals as goal

pub returns-clause-more : goal.returns-clause-more
returns-clause-more g c =
    let kept : length c.read.new.room ≡ length c.args.room.now = c.read.auto.room in
    record {
      piece = take c.in_ok-count.count c.read.new.room;
      told = c.in_ok-count.ensures.bytes.0;
      added = grind (arith, common_steps);
      size = grind (arith, common_steps);
      within = omega (arith, kept, c.in_ok-count.ensures.bound);
      ended = λ none room. c.in_ok-count.ensures.bytes.1 none (omega (arith, kept));
    }
