use Rattle.std.proofs.Common.{◌≡◌, [], take}
use Rattle.std.specs.Str.{bytes_eq}
use Rattle.indexmap.specs.IndexSet.{insert_all}
use Rattle.dl_names.proofs.atom_pairs.copied_modes.Given as goal

abbrev pub invariant-loop-mode : goal.invariant-loop-mode
invariant-loop-mode l = l.set.keys ≡ insert_all bytes_eq [] (take l.mode-index l.all)
