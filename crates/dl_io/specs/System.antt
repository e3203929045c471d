-- What a sink over calls of the system tells.
use Rattle.std.specs.Prelude.{ℕ, List, drop, Option}
use Rattle.std.specs.Io.KnownBytes.{append_known}
use Rattle.dl_io.specs.declared.system.SystemSink.{SystemSink}

-- what the calls took, and then what is held back
abbrev pub system_written : {W : Type 0} → (W → Option (List ℕ)) → SystemSink W → Option (List ℕ)
system_written got sink = append_known (got sink.raw) (drop sink.start sink.held.items)
