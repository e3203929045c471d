use Rattle.std.proofs.Common.{◌≡◌, ◌++◌, take}
use Rattle.dl_lists.proofs.label_names.add_all.Given as goal

abbrev pub invariant-loop-name : goal.invariant-loop-name
invariant-loop-name l = l.names.keys ≡ l.initial.names.keys ++ take l.name-index l.name-items
