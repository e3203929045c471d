use Rattle.std.proofs.Common.{[]}
use Rattle.std.specs.Str.{bytes_eq}
use Rattle.std.proofs.lemmas.Slice.Eq.{bytes_eq-Decides}
use Rattle.dl_theory.proofs.Places.{place_has, no_place}
use Rattle.dl_lists.proofs.LabelLemmas.{if_none}
use Rattle.dl_lists.proofs.label_names.place_of.Goals as goal

pub returns-clause-there : goal.returns-clause-there
returns-clause-there c = place_has bytes_eq bytes_eq-Decides c.args.names.now.keys c.args.label.now _ [] c.get_index_of.ensures.index

pub returns-clause-absent : goal.returns-clause-absent
returns-clause-absent c =
    if_none c.get_index_of.result _ (no_place bytes_eq bytes_eq-Decides c.args.names.now.keys c.args.label.now _ c.get_index_of.ensures.found)
