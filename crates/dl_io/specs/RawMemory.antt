-- What raw streams in memory tell.
use Rattle.std.specs.Prelude.{ℕ, List, drop, Option, Some}
use Rattle.dl_io.specs.declared.raw_memory.RawMemorySource.{RawMemorySource}
use Rattle.dl_io.specs.declared.raw_memory.RawMemorySink.{RawMemorySink}

abbrev pub raw_rest : RawMemorySource → Option (List ℕ)
raw_rest source = Some (drop source.at source.bytes.items)

abbrev pub raw_got : RawMemorySink → Option (List ℕ)
raw_got sink = Some sink.bytes.items
