-- The words of a line, from its bytes and back.
use Rattle.std.proofs.Common.{◌≡◌, ℕ, suc, ◌+◌, ◌^◌, ◌<◌, ◌≤◌, Bool, true, false, not, cond, ◌&&◌, ◌==◌, nat_le, List, [], ◌∷◌, ◌++◌, IsTrue, length, take, drop, decimal, refl, sym, ap, subst, ◌∙◌, arith, le-leb, take-append-drop}
use Rattle.std.specs.List.{prefix_len, list_all}
use Rattle.std.specs.Str.Parse.{AllDigits}
use Rattle.std.proofs.lemmas.Bool.{and_from, both_ways, false_from_ne_true, or_right}
use Rattle.std.proofs.lemmas.Fmt.{decimal_is_IsNumeral, decimal_injective}
use Rattle.std.proofs.lemmas.Str.Parse.{digit_from_value}
use Rattle.dl_lit.specs.Name.{begins_name, continues_name, is_name}
use Rattle.dl_read.specs.Grammar.{is_blank, begins_with, has_variables, AreBlank, IsComment}
use Rattle.dl_read.specs.Tokens.{unblank}
use Rattle.dl_read.specs.Words.{in_word, word_length, word_of, past_word}
use Rattle.dl_read.specs.EditLines.{BeginsWith}
use Rattle.dl_read.proofs.Scanning.{plain, plain_by, both_hold, prefix_passes, differs, eq_of, by_test}
use Rattle.dl_read.proofs.Lexing.{prefix_ends, prefix_whole, take_front, drop_front}
use Rattle.dl_read.proofs.WordLemmas.{all_weaker, blank_ends, blanks_front, plain_front, unblank_front, word_variables}
use Rattle.dl_read.proofs.Unique.{spelled_plain}
use Rattle.dl_read.specs.Numbers.{IsNumber}
use Rattle.dl_request.specs.Requests.{HasNoToken, EndsWith, IsOnlyName}

pub clash : {P : Type 0} (v : Bool) → v ≡ true → v ≡ false → P
clash v h k = absurd (both_ways v k h)

-- Bytes

word_byte : (b : ℕ) → continues_name b ≡ true → in_word b ≡ true
word_byte b h = rw (differs continues_name 32 b refl h, differs continues_name 9 b refl h, differs continues_name 35 b refl h) refl

no_blank : (b : ℕ) → continues_name b ≡ true → is_blank b ≡ false
no_blank b h = rw (differs continues_name 32 b refl h, differs continues_name 9 b refl h) refl

blank_ends_name : (b : ℕ) → is_blank b ≡ true → continues_name b ≡ false
blank_ends_name b h = false_from_ne_true (continues_name b) (λ c. both_ways (is_blank b) (no_blank b c) h)

blank_ends_word : (b : ℕ) → is_blank b ≡ true → in_word b ≡ false
blank_ends_word b h = rw h refl

-- neither a blank nor in a word: it begins a comment
neither : (v w : Bool) → v ≡ false → (not v && not w) ≡ false → w ≡ true
neither true w h k = cc
neither false true h k = refl
neither false false h k = cc

begins_comment : (b : ℕ) → is_blank b ≡ false → in_word b ≡ false → b ≡ 35
begins_comment b h k = eq_of b 35 (neither (is_blank b) (b == 35) h k)

-- Words: bytes of names and numbers, at least one

abbrev pub IsWord : List ℕ → Type 0
IsWord [] = ⊥
IsWord (b ∷ word) = list_all continues_name (b ∷ word) ≡ true

all_word : (word : List ℕ) → IsWord word → list_all continues_name word ≡ true
all_word [] w = absurd w
all_word (b ∷ word) w = w

pub word_plain : (word : List ℕ) → IsWord word → list_all plain word ≡ true
word_plain word w = all_weaker continues_name plain word (λ b. plain_by continues_name b refl refl) (all_word word w)

-- the first word of a line, and what follows it
pub front_word : (blanks word rest line : List ℕ) → AreBlank blanks → IsWord word → begins_with in_word rest ≡ false → line ≡ blanks ++ (word ++ rest)
    → (word_of line ≡ word) × (past_word line ≡ rest)
front_word blanks [] rest line h w e o = absurd w
front_word blanks (b ∷ word) rest line h w e o =
    let within : list_all in_word (b ∷ word) ≡ true = all_weaker continues_name in_word (b ∷ word) word_byte w in
    let first = both_hold (continues_name b) (list_all continues_name word) w in
    let bytes : unblank line ≡ (b ∷ word) ++ rest = ap unblank o ∙ unblank_front blanks ((b ∷ word) ++ rest) h (no_blank b first.0) in
    let n : word_length line ≡ length (b ∷ word) = ap (prefix_len in_word) bytes ∙ prefix_whole in_word (b ∷ word) rest within e in (
      ap (λ (k : ℕ). take k (unblank line)) n ∙ ap (take (length (b ∷ word))) bytes ∙ take_front (b ∷ word) rest,
      ap (λ (k : ℕ). drop k (unblank line)) n ∙ ap (drop (length (b ∷ word))) bytes ∙ drop_front (b ∷ word) rest,
    )

pub past_ends : (line : List ℕ) → begins_with in_word (past_word line) ≡ false
past_ends line = prefix_ends in_word (unblank line)

pub word_order : (word line : List ℕ) → word_of line ≡ word → line ≡ take (prefix_len is_blank line) line ++ (word ++ past_word line)
word_order word line e =
    sym (take-append-drop (prefix_len is_blank line) line)
    ∙ ap (λ (l : List ℕ). take (prefix_len is_blank line) line ++ l) (sym (take-append-drop (word_length line) (unblank line)) ∙ ap (λ (l : List ℕ). l ++ past_word line) e)

-- Only blanks and a comment

ends_by : (p : ℕ → Bool) → ((b : ℕ) → is_blank b ≡ true → p b ≡ false) → p 35 ≡ false → (blanks comment : List ℕ) → AreBlank blanks → IsComment comment
    → begins_with p (blanks ++ comment) ≡ false
ends_by p f g [] [] h c = refl
ends_by p f g [] (b ∷ comment) h c = ap p c ∙ g
ends_by p f g (b ∷ blanks) comment h c = f b (both_hold (is_blank b) (list_all is_blank blanks) h).0

pub ends_word : (line : List ℕ) → HasNoToken line → begins_with in_word line ≡ false
ends_word line h = ap (begins_with in_word) h.4 ∙ ends_by in_word blank_ends_word refl h.0 h.1 h.2 h.3

ends_name : (line : List ℕ) → HasNoToken line → begins_with continues_name line ≡ false
ends_name line h = ap (begins_with continues_name) h.4 ∙ ends_by continues_name blank_ends_name refl h.0 h.1 h.2 h.3

pub no_token_plain : (line : List ℕ) → HasNoToken line → has_variables line ≡ false
no_token_plain line h = spelled_plain [] line h

comment_first : (comment : List ℕ) → IsComment comment → begins_with is_blank comment ≡ false
comment_first [] h = refl
comment_first (b ∷ comment) h = ap is_blank h

comment_no_word : (comment : List ℕ) → IsComment comment → take (prefix_len in_word comment) comment ≡ []
comment_no_word [] h = refl
comment_no_word (b ∷ comment) h = subst (λ (x : ℕ). take (prefix_len in_word (x ∷ comment)) (x ∷ comment) ≡ []) (sym h) refl

pub spent_word : (line : List ℕ) → HasNoToken line → word_of line ≡ []
spent_word line h =
    let bytes : unblank line ≡ h.1 = ap unblank h.4 ∙ unblank_front h.0 h.1 h.2 (comment_first h.1 h.3) in
    ap (λ (u : List ℕ). take (prefix_len in_word u) u) bytes ∙ comment_no_word h.1 h.3

none_taken : (v : Bool) (b k : ℕ) (bytes : List ℕ) → take (cond v (1 + k) 0) (b ∷ bytes) ≡ [] → v ≡ false
none_taken true b k bytes e =
    let one : 1 + k ≡ suc k = omega arith in
    let f : b ∷ take k bytes ≡ [] = ap (λ (n : ℕ). take n (b ∷ bytes)) (sym one) ∙ e in
    cc
none_taken false b k bytes e = refl

comment_left : (bytes : List ℕ) → begins_with is_blank bytes ≡ false → take (prefix_len in_word bytes) bytes ≡ [] → IsComment bytes
comment_left [] h e = tt
comment_left (b ∷ bytes) h e = begins_comment b h (none_taken (in_word b) b (prefix_len in_word bytes) bytes e)

pub word_spent : (line : List ℕ) → word_of line ≡ [] → HasNoToken line
word_spent line e = (
  take (prefix_len is_blank line) line,
  unblank line,
  prefix_passes is_blank line,
  comment_left (unblank line) (prefix_ends is_blank line) e,
  sym (take-append-drop (prefix_len is_blank line) line),
)

pub empty_list : (bytes : List ℕ) → (length bytes == 0) ≡ true → bytes ≡ []
empty_list [] h = refl
empty_list (b ∷ bytes) h = let e : length (b ∷ bytes) ≡ 0 = eq_of (length (b ∷ bytes)) 0 h in absurd (omega arith)

-- A word, and what stands behind it

pub ends_words : (word line : List ℕ) → IsWord word → EndsWith word line → (word_of line ≡ word) × HasNoToken (past_word line)
ends_words word line w h =
    let two = front_word h.blanks word h.rest line h.are_blank w (ends_word h.rest h.ends) h.order in
    (two.0, subst (λ (r : List ℕ). HasNoToken r) (sym two.1) h.ends)

pub ends_found : (word line : List ℕ) → word_of line ≡ word → HasNoToken (past_word line) → EndsWith word line
ends_found word line e h = record {
  blanks = take (prefix_len is_blank line) line;
  rest = past_word line;
  are_blank = prefix_passes is_blank line;
  order = word_order word line e;
  ends = h;
}

pub ends_plain : (word line : List ℕ) → IsWord word → EndsWith word line → has_variables line ≡ false
ends_plain word line w h =
    ap has_variables h.order ∙ blanks_front h.blanks (word ++ h.rest) h.are_blank ∙ plain_front word h.rest (word_plain word w) ∙ no_token_plain h.rest h.ends

pub name_words : (name line : List ℕ) → IsWord name → IsOnlyName name line → (word_of line ≡ name) × HasNoToken (past_word line)
name_words name line w h =
    let two = front_word h.0 name h.1 line h.2 w (ends_word h.1 h.5) h.4 in
    (two.0, subst (λ (r : List ℕ). HasNoToken r) (sym two.1) h.5)

pub name_found : (name line : List ℕ) → IsTrue (is_name name) → word_of line ≡ name → HasNoToken (past_word line) → IsOnlyName name line
name_found name line n e h =
    (take (prefix_len is_blank line) line, past_word line, prefix_passes is_blank line, (n, ends_name (past_word line) h), word_order name line e, h)

pub begins_words : (word line rest : List ℕ) → IsWord word → BeginsWith word line rest → (word_of line ≡ word) × (past_word line ≡ rest)
begins_words word line rest w h = front_word h.blanks word rest line h.are_blank w (blank_ends rest h.spaced) h.order

pub begins_plain : (word line rest : List ℕ) → IsWord word → BeginsWith word line rest → has_variables line ≡ has_variables rest
begins_plain word line rest w h = word_variables word line rest (word_plain word w) h

-- the first word decides whether a line has variables as what follows it does
pub past_plain : (word line : List ℕ) → IsWord word → word_of line ≡ word → has_variables line ≡ has_variables (past_word line)
past_plain word line w e =
    ap has_variables (word_order word line e)
    ∙ blanks_front (take (prefix_len is_blank line) line) (word ++ past_word line) (prefix_passes is_blank line)
    ∙ plain_front word (past_word line) (word_plain word w)

-- Where a word has ended and another follows, a blank stands between them.

no_word_here : (b : ℕ) (rest : List ℕ) → is_blank b ≡ false → in_word b ≡ false → word_of (b ∷ rest) ≡ []
no_word_here b rest h e =
    let none : take (prefix_len in_word (b ∷ rest)) (b ∷ rest) ≡ [] = by_test (λ (n : ℕ). take n (b ∷ rest) ≡ []) (in_word b) (1 + prefix_len in_word rest) 0 (λ t. clash (in_word b) t e) (λ t. refl) in
    ap (λ (u : List ℕ). take (prefix_len in_word u) u) (unblank_front [] (b ∷ rest) refl h) ∙ none

pub spaced : (rest word : List ℕ) → begins_with in_word rest ≡ false → word_of rest ≡ word → IsWord word → begins_with is_blank rest ≡ true
spaced [] word e h w = absurd (subst (λ (x : List ℕ). IsWord x) (sym h) w)
spaced (b ∷ rest) word e h w = either (is_blank b) refl
  where
    either : (v : Bool) → is_blank b ≡ v → is_blank b ≡ true
    either true i = i
    either false i = absurd (subst (λ (x : List ℕ). IsWord x) (sym h ∙ no_word_here b rest i e) w)

-- Numbers

digit_continues : (c : ℕ) → 48 ≤ c → c ≤ 57 → continues_name c ≡ true
digit_continues c low high =
    or_right (begins_name c) (nat_le 48 c && nat_le c 57) (and_from (nat_le 48 c) (nat_le c 57) (le-leb _ _ low) (le-leb _ _ high))

digits_continue : (ds : List ℕ) → AllDigits 10 ds → list_all continues_name ds ≡ true
digits_continue [] d = refl
digits_continue (c ∷ ds) d =
    let digit = digit_from_value c d.0 in
    and_from (continues_name c) (list_all continues_name ds) (digit_continues c (omega arith) (omega arith)) (digits_continue ds d.1)

digits_word : (ds : List ℕ) → 0 < length ds → AllDigits 10 ds → IsWord ds
digits_word [] l d = absurd (omega arith)
digits_word (c ∷ ds) l d = digits_continue (c ∷ ds) d

short_fits : (n : ℕ) → n < 10 ^ 19 → n < 2 ^ 64
short_fits n h = omega (arith, h)

pub number_word : (word : List ℕ) (n : ℕ) → IsNumber word n → IsWord word
number_word word n h =
    let d = decimal_is_IsNumeral n (short_fits n h.short) in
    subst (λ (w : List ℕ). IsWord w) (sym h.digits) (digits_word (decimal n) d.0.0 d.0.1)

pub number_one : (word : List ℕ) (m n : ℕ) → IsNumber word m → IsNumber word n → n ≡ m
number_one word m n h i = decimal_injective n m (short_fits n i.short) (short_fits m h.short) (sym i.digits ∙ h.digits)
