use Rattle.std.proofs.Common.{◌≡◌, take, length, map}
use Rattle.std.specs.Prelude.{All}
use Rattle.dl_theory.specs.Edits.{AreThere}
use Rattle.dl_theory.specs.Pairs.{named, IsWithin}
use Rattle.dl_theory.proofs.labelled.labelled_front.Given as goal

abbrev pub invariant-loop-pair : goal.invariant-loop-pair
invariant-loop-pair l = record {
  labelled : All (AreThere l.labels.keys) (take l.pair-index l.pairs);
  as_many : length l.links.items ≡ l.pair-index;
  within : All (IsWithin l.labels.keys) l.links.items;
  names : map (named l.labels.keys) l.links.items ≡ take l.pair-index l.pairs;
}
