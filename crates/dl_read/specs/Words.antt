-- The words of a request: each goes up to a blank or a comment.
use Rattle.std.specs.Prelude.{ℕ, Bool, not, ◌&&◌, ◌==◌, List, take, drop}
use Rattle.std.specs.List.{prefix_len}
use Rattle.dl_read.specs.Grammar.{is_blank}
use Rattle.dl_read.specs.Tokens.{unblank}

-- neither a blank nor a `#`
abbrev pub in_word : ℕ → Bool
in_word b = not (is_blank b) && not (b == 35)

abbrev pub word_length : List ℕ → ℕ
word_length line = prefix_len in_word (unblank line)

-- the first word of a line, and what follows it
abbrev pub word_of : List ℕ → List ℕ
word_of line = take (word_length line) (unblank line)

abbrev pub past_word : List ℕ → List ℕ
past_word line = drop (word_length line) (unblank line)
