use Rattle.std.proofs.Common.{◌<◌, arith}
use Rattle.std.proofs.lemmas.List.Elements.{All-weaker}
use Rattle.dl_lists.proofs.FactLemmas.{kept_all}
use Rattle.dl_lists.proofs.fact_numbers.FactNumbers.of.Goals as goal

pub of-requires : goal.of-requires
of-requires c =
    All-weaker (λ q. q < c.args.names) (λ q. q < 4294967295) (λ q lt. omega (arith, lt, c.requires.narrow)) c.args.literals.items c.requires.within

pub invariant_of-result : goal.invariant_of-result
invariant_of-result c =
    kept_all _ c.args.literals.items c.of.ensures c.requires.within c.requires.once c.requires.narrow tt c.len-live.ensures.items tt
