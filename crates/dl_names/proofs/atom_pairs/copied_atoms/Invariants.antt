use Rattle.std.proofs.Common.{◌≡◌, [], take}
use Rattle.dl_names.specs.Atoms.{atom_eq}
use Rattle.indexmap.specs.IndexSet.{insert_all}
use Rattle.dl_names.proofs.atom_pairs.copied_atoms.Given as goal

abbrev pub invariant-loop-atom : goal.invariant-loop-atom
invariant-loop-atom l = l.set.keys ≡ insert_all atom_eq [] (take l.atom-index l.all)
