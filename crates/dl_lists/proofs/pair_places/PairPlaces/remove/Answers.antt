use Rattle.dl_lists.proofs.PairLemmas.{placed_removed}
use Rattle.dl_lists.proofs.pair_places.PairPlaces.remove.Goals as goal

pub returns : goal.returns
returns c = λ items h.
    placed_removed items c.args.self.now.uppers c.args.self.now.lowers c.remove.new.self c.remove-2.new.self h c.args.pair.upper c.args.pair.lower
    c.args.number c.remove.ensures.lists c.remove-2.ensures.lists
