-- What stands behind the first word of a line, as the reader goes.
use Rattle.std.specs.Prelude.{◌≡◌, ◌⊎◌, ℕ, List, [], ◌∷◌, Option, MatchOption, codes}
use Rattle.dl_lit.specs.declared.literal.Family.{Family}
use Rattle.dl_lit.specs.declared.literal.Literal.{Literal}
use Rattle.dl_print.specs.Text.{family_letter}
use Rattle.dl_read.specs.Words.{word_of, past_word}
use Rattle.dl_read.specs.Numbers.{IsNumber}
use Rattle.dl_request.specs.declared.keyword.Keyword.{Keyword}
use Rattle.dl_request.specs.declared.keyword.Keyword.TheVariants.{Quit, Publish, Hold, Text, Conclusions, Ask}
use Rattle.dl_request.specs.declared.request.Request.TheVariants as request
use Rattle.dl_request.specs.declared.request.Asked.{Asked}
use Rattle.dl_request.specs.declared.request.Asked.TheVariants as asked
use Rattle.dl_request.specs.Requests.{HasNoToken, IsEdition, IsInFamily, IsQuestion}

-- the first word of a line that may make an edit
abbrev pub IsEditWord : List ℕ → Type 0
IsEditWord word = (word ≡ codes "add") ⊎ (word ≡ codes "drop")

abbrev pub spelled : Keyword → List ℕ
spelled Quit = codes "quit"
spelled Publish = codes "publish"
spelled Hold = codes "hold"
spelled Text = codes "text"
spelled Conclusions = codes "conclusions"
spelled Ask = codes "ask"

abbrev pub IsLetter : List ℕ → Family → Type 0
IsLetter word f = word ≡ family_letter f ∷ []

-- the first words of a line are a number and a family's letter, and this is the rest
abbrev pub AreNumberAndLetter : List ℕ → ℕ → Family → List ℕ → Type 0
AreNumberAndLetter line n f rest = IsNumber (word_of line) n × IsLetter (word_of (past_word line)) f × (rest ≡ past_word (past_word line))

-- behind this first word the line asks for this
abbrev pub Behind : Keyword → List ℕ → Asked → Type 0
Behind Quit rest x = HasNoToken rest × (x ≡ asked.Quit)
Behind Publish rest x = HasNoToken rest × (x ≡ asked.Request request.Publish)
Behind Hold rest x = (n : ℕ) × IsEdition rest n × (x ≡ asked.Request (request.Hold n))
Behind Text rest x = (n : ℕ) × IsEdition rest n × (x ≡ asked.Request (request.Text n))
Behind Conclusions rest x = (n : ℕ) × (f : Family) × IsInFamily rest n f × (x ≡ asked.Request (request.Conclusions n f))
Behind Ask rest x = (n : ℕ) × (f : Family) × (q : Literal) × IsQuestion rest n f q × (x ≡ asked.Request (request.Ask n f q))

-- this is what is asked for there, or nothing is
abbrev pub Finds : Keyword → List ℕ → Option Asked → Type 0
Finds k rest found = MatchOption found ((x : Asked) → Behind k rest x → ⊥) (Behind k rest)
