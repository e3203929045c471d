use Rattle.std.proofs.Common.{None, ap, sym, ◌∙◌, arith}
use Rattle.std.proofs.lemmas.List.{get_or-map}
use Rattle.dl_lists.specs.KeptPairs.{pair_in}
use Rattle.dl_lists.proofs.pair_places.pair_at.Goals as goal

pub returns : goal.returns
returns c =
    c.pair.ensures ∙ ap pair_in c.at.ensures
    ∙ sym (get_or-map pair_in c.args.pairs.now.items c.args.number c.at.result.now None (omega (arith, c.if-number-len.false, c.len.ensures)))
