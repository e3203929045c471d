use Rattle.std.proofs.Common.{◌≡◌, map, take, string_bytes}
use Rattle.dl_journal.specs.Streams.{names_of}
use Rattle.dl_journal.proofs.named.named_all.Given as goal

abbrev pub invariant-loop-name : goal.invariant-loop-name
invariant-loop-name l = names_of l.all.items ≡ map string_bytes (take l.name-index l.names)
