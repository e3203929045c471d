use Rattle.dl_lists.proofs.PairLemmas.{placed_push}
use Rattle.dl_lists.proofs.pair_places.PairPlaces.put.Goals as goal

pub returns : goal.returns
returns c = λ items long h.
    placed_push items c.args.self.now.uppers c.args.self.now.lowers c.push.new.self c.push-2.new.self h c.args.pair c.args.number long
    c.requires.upper.0 c.requires.lower.0 c.push.ensures.lists c.push-2.ensures.lists
