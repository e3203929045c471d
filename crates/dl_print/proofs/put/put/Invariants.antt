use Rattle.std.proofs.Common.{take}
use Rattle.dl_print.specs.Room.{Puts}
use Rattle.dl_print.proofs.put.put.Given as goal

abbrev pub invariant-loop-byte : goal.invariant-loop-byte
invariant-loop-byte l = Puts l.initial.text l.text (take l.byte-index l.bytes)
