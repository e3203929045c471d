use Rattle.std.proofs.Common.{◌≡◌, drop, map, string_bytes}
use Rattle.dl_words.specs.Names.{is_among}
use Rattle.dl_words.proofs.words.is_among.Given as goal

abbrev pub invariant-loop-word : goal.invariant-loop-word
invariant-loop-word l = is_among l.name (map string_bytes (drop l.word-index l.words)) ≡ is_among l.name (map string_bytes l.words)
