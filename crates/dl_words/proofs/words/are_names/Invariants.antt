use Rattle.std.proofs.Common.{◌≡◌, length, map, string_bytes}
use Rattle.dl_words.specs.Words.{are_names}
use Rattle.dl_words.proofs.words.are_names.Given as goal

abbrev pub invariant-loop-word : goal.invariant-loop-word
invariant-loop-word l = are_names (map string_bytes l.rest) ≡ are_names (map string_bytes l.words)

abbrev pub decreases-loop-word : goal.decreases-loop-word
decreases-loop-word l = length l.rest
