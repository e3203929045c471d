use Rattle.std.proofs.Common.{◌≡◌, map, take}
use Rattle.dl_theory.specs.Pairs.{named}
use Rattle.dl_theory.proofs.labelled.pairs_of.Given as goal

abbrev pub invariant-loop-link : goal.invariant-loop-link
invariant-loop-link l = l.pairs.items ≡ map (named l.labels) (take l.link-index l.links)
