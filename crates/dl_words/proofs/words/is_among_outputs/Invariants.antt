use Rattle.std.proofs.Common.{◌≡◌, drop, map, string_bytes}
use Rattle.dl_words.specs.Names.{is_among, output_names}
use Rattle.dl_words.proofs.words.is_among_outputs.Given as goal

abbrev pub invariant-loop-name : goal.invariant-loop-name
invariant-loop-name l = is_among l.word (output_names (map string_bytes (drop l.name-index l.names))) ≡ is_among l.word (output_names (map string_bytes l.names))
