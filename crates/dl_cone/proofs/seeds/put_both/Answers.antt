use Rattle.dl_cone.proofs.Raising.{gains_both}
use Rattle.dl_derive.proofs.Gaining.{gains_one}
use Rattle.dl_cone.proofs.seeds.put_both.Goals as goal

pub returns : goal.returns
returns c =
    gains_both c.args.net.now c.requires.numbered c.args.number c.args.region.now c.put.new.self c.put_attackers.new.region c.requires.number
    (gains_one c.args.region.now c.put.new.self c.args.number c.put.ensures.bound c.put.ensures.there c.put.ensures.new) c.put_attackers.ensures
