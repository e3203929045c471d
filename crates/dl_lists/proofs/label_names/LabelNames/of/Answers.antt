use Rattle.std.specs.Str.{bytes_eq}
use Rattle.std.proofs.lemmas.Slice.Eq.{bytes_eq-Decides}
use Rattle.dl_theory.proofs.Places.{keys_distinct}
use Rattle.dl_lists.proofs.label_names.LabelNames.of.Goals as goal

pub invariant_of-result : goal.invariant_of-result
invariant_of-result c = keys_distinct bytes_eq bytes_eq-Decides c.args.names.keys c.len-distinct.ensures.unique
