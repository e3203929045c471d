use Rattle.dl_fill.proofs.Touching.{heads_inside}
use Rattle.dl_fill.proofs.touch.touch.Goals as goal

pub returns-then-is_everywhere-clause-touches : goal.returns-then-is_everywhere-clause-touches
returns-then-is_everywhere-clause-touches c = record {
  for_members = λ q m r h. c.touch_all.ensures.there r (heads_inside c.args.net.now q r h);
  against_members = λ q m a k u h. c.touch_all.ensures.there u (heads_inside c.args.net.now a u h);
}
