-- The first word of a line.
use Rattle.std.proofs.Common.{◌≡◌, ℕ, ◌≤◌, Bool, true, false, not, ◌&&◌, ◌==◌, List, [], ◌∷◌, ◌++◌, length, take, drop, refl, sym, ap, ◌∙◌, take-append-drop}
use Rattle.std.specs.List.{prefix_len, list_all}
use Rattle.std.proofs.lemmas.List.Sums.{prefix_len-le-length}
use Rattle.dl_read.specs.Grammar.{is_blank, begins_with, AreBlank, has_variables}
use Rattle.dl_read.specs.Tokens.{unblank}
use Rattle.dl_read.specs.Words.{in_word, word_length, word_of, past_word}
use Rattle.dl_read.specs.EditLines.{BeginsWith}
use Rattle.dl_read.proofs.Scanning.{plain, plain_by, both_hold, prefix_passes, two_tests}
use Rattle.dl_read.proofs.Lexing.{prefix_whole, take_front, drop_front}

pub word_within : (bytes : List ℕ) → prefix_len in_word bytes ≤ length bytes
word_within bytes = prefix_len-le-length in_word bytes

-- plain bytes in front change nothing
pub plain_front : (xs rest : List ℕ) → list_all plain xs ≡ true → has_variables (xs ++ rest) ≡ has_variables rest
plain_front [] rest h = refl
plain_front (b ∷ xs) rest h =
    let two = both_hold (plain b) (list_all plain xs) h in
    two_tests (b == 35) (b == 40) (has_variables (xs ++ rest)) two.0 ∙ plain_front xs rest two.1

pub all_weaker : (p q : ℕ → Bool) (xs : List ℕ) → ((b : ℕ) → p b ≡ true → q b ≡ true) → list_all p xs ≡ true → list_all q xs ≡ true
all_weaker p q [] f h = refl
all_weaker p q (b ∷ xs) f h = let two = both_hold (p b) (list_all p xs) h in rw (f b two.0) (all_weaker p q xs f two.1)

pub blanks_front : (blanks rest : List ℕ) → AreBlank blanks → has_variables (blanks ++ rest) ≡ has_variables rest
blanks_front blanks rest h = plain_front blanks rest (all_weaker is_blank plain blanks (λ b. plain_by is_blank b refl refl) h)

pub unblank_front : (blanks rest : List ℕ) → AreBlank blanks → begins_with is_blank rest ≡ false → unblank (blanks ++ rest) ≡ rest
unblank_front blanks rest h e = ap (λ (n : ℕ). drop n (blanks ++ rest)) (prefix_whole is_blank blanks rest h e) ∙ drop_front blanks rest

-- what is no blank and no `#`
word_byte : (b : ℕ) → in_word b ≡ true → is_blank b ≡ false
word_byte b h = of_not (is_blank b) (not (b == 35)) h
  where
    of_not : (v w : Bool) → (not v && w) ≡ true → v ≡ false
    of_not true w h = cc
    of_not false w h = refl

pub blank_ends : (rest : List ℕ) → begins_with is_blank rest ≡ true → begins_with in_word rest ≡ false
blank_ends [] h = cc
blank_ends (b ∷ rest) h = rw h refl

-- the first byte of a word
pub word_begins : (b : ℕ) (word line rest : List ℕ) → list_all in_word (b ∷ word) ≡ true → BeginsWith (b ∷ word) line rest → (word_of line ≡ b ∷ word) × (past_word line ≡ rest)
word_begins b word line rest w h =
    let first = both_hold (in_word b) (list_all in_word word) w in
    let bytes : unblank line ≡ (b ∷ word) ++ rest = ap unblank h.order ∙ unblank_front h.blanks ((b ∷ word) ++ rest) h.are_blank (word_byte b first.0) in
    let n : word_length line ≡ length (b ∷ word) = ap (prefix_len in_word) bytes ∙ prefix_whole in_word (b ∷ word) rest w (blank_ends rest h.spaced) in (
      ap (λ (k : ℕ). take k (unblank line)) n ∙ ap (take (length (b ∷ word))) bytes ∙ take_front (b ∷ word) rest,
      ap (λ (k : ℕ). drop k (unblank line)) n ∙ ap (drop (length (b ∷ word))) bytes ∙ drop_front (b ∷ word) rest,
    )

pub word_found : (word line : List ℕ) → word_of line ≡ word → begins_with is_blank (past_word line) ≡ true → BeginsWith word line (past_word line)
word_found word line e h = record {
  blanks = take (prefix_len is_blank line) line;
  are_blank = prefix_passes is_blank line;
  order = sym (take-append-drop (prefix_len is_blank line) line)
      ∙ ap (λ (l : List ℕ). take (prefix_len is_blank line) line ++ l) (sym (take-append-drop (word_length line) (unblank line)) ∙ ap (λ (l : List ℕ). l ++ past_word line) e);
  spaced = h;
}

pub word_variables : (word line rest : List ℕ) → list_all plain word ≡ true → BeginsWith word line rest → has_variables line ≡ has_variables rest
word_variables word line rest p h = ap has_variables h.order ∙ blanks_front h.blanks (word ++ rest) h.are_blank ∙ plain_front word rest p
