use Rattle.std.proofs.Common.{◌≡◌, drop, map, string_bytes}
use Rattle.dl_words.specs.Names.{output_names}
use Rattle.dl_words.specs.Words.{are_apart}
use Rattle.dl_words.proofs.words.are_apart.Given as goal

abbrev pub invariant-loop-word : goal.invariant-loop-word
invariant-loop-word l =
    are_apart (map string_bytes (drop l.word-index l.words)) (output_names (map string_bytes l.names))
    ≡ are_apart (map string_bytes l.words) (output_names (map string_bytes l.names))
