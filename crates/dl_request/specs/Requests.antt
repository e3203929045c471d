-- What a line of a session asks for.
use Rattle.std.specs.Prelude.{◌≡◌, ℕ, true, false, List, [], ◌∷◌, ◌++◌, codes}
use Rattle.dl_lit.specs.declared.literal.Family.{Family}
use Rattle.dl_lit.specs.declared.literal.Literal.{Literal}
use Rattle.dl_print.specs.Text.{family_letter}
use Rattle.dl_read.specs.declared.token.Token.TheVariants.{Name}
use Rattle.dl_read.specs.EditLines.{BeginsWith, IsEditLine}
use Rattle.dl_read.specs.Files.{without_cr}
use Rattle.dl_read.specs.Grammar.{has_variables, AreBlank, AreTokensOf, IsLiteral}
use Rattle.dl_read.specs.Numbers.{IsNumber}
use Rattle.dl_request.specs.declared.request.Request.{Request}
use Rattle.dl_request.specs.declared.request.Request.TheVariants.{Edit, Publish, Hold, Ask, Text, Conclusions}
use Rattle.dl_request.specs.declared.request.Asked.{Asked}
use Rattle.dl_request.specs.declared.request.Asked.TheVariants as asked

-- only blanks and a comment
abbrev pub HasNoToken : List ℕ → Type 0
HasNoToken line = AreTokensOf [] line

-- The line is this word, free blanks before it, and behind it only blanks and a comment.
pub record EndsWith (word line : List ℕ) : Type 0 where
  pub blanks : List ℕ
  pub rest : List ℕ
  pub are_blank : AreBlank blanks
  pub order : line ≡ blanks ++ (word ++ rest)
  pub ends : HasNoToken rest

-- the line's only token is this name
abbrev pub IsOnlyName : List ℕ → List ℕ → Type 0
IsOnlyName name line = AreTokensOf (Name name ∷ []) line

-- what stands behind `hold` and `text`: a number
abbrev pub IsEdition : List ℕ → ℕ → Type 0
IsEdition line n = (word : List ℕ) × IsNumber word n × EndsWith word line

-- what stands behind `conclusions`: a number and a family's letter
abbrev pub IsInFamily : List ℕ → ℕ → Family → Type 0
IsInFamily line n f = (word : List ℕ) × (rest : List ℕ) × IsNumber word n × BeginsWith word line rest × EndsWith (family_letter f ∷ []) rest

-- what stands behind `ask`: a number, a family's letter and a literal
abbrev pub IsQuestion : List ℕ → ℕ → Family → Literal → Type 0
IsQuestion line n f q =
    (word : List ℕ) × (lettered : List ℕ) × (rest : List ℕ)
    × IsNumber word n × BeginsWith word line lettered × BeginsWith (family_letter f ∷ []) lettered rest × IsLiteral rest q

-- The line makes this request.
abbrev pub IsRequestLine : List ℕ → Request → Type 0
IsRequestLine line (Edit e) = IsEditLine line e
IsRequestLine line Publish = IsOnlyName (codes "publish") line
IsRequestLine line (Hold n) = (rest : List ℕ) × BeginsWith (codes "hold") line rest × IsEdition rest n
IsRequestLine line (Ask n f q) = (rest : List ℕ) × BeginsWith (codes "ask") line rest × IsQuestion rest n f q
IsRequestLine line (Text n) = (rest : List ℕ) × BeginsWith (codes "text") line rest × IsEdition rest n
IsRequestLine line (Conclusions n f) = (rest : List ℕ) × BeginsWith (codes "conclusions") line rest × IsInFamily rest n f

-- no `(` stands before any `#`, and the line is neither skipped, nor `quit`, nor a request
pub record IsOutside (line : List ℕ) : Type 0 where
  pub plain : has_variables line ≡ false
  pub no_blank : HasNoToken line → ⊥
  pub no_quit : IsOnlyName (codes "quit") line → ⊥
  pub no_request : (r : Request) → IsRequestLine line r → ⊥

-- what a line without its CR asks for
abbrev pub Means : List ℕ → Asked → Type 0
Means line asked.Nothing = HasNoToken line
Means line asked.Quit = IsOnlyName (codes "quit") line
Means line (asked.Request r) = IsRequestLine line r
Means line asked.Variables = has_variables line ≡ true
Means line asked.Form = IsOutside line

-- The line asks for this. One CR at its very end is dropped first.
abbrev pub Asks : List ℕ → Asked → Type 0
Asks line x = Means (without_cr line) x

-- this and nothing else
abbrev pub AsksOnly : List ℕ → Asked → Type 0
AsksOnly line x = Asks line x × ((y : Asked) → Asks line y → y ≡ x)

-- what reading may want memory for: an edit, a question, or a refusal for form
abbrev pub MayWantMemory : Asked → Type 0
MayWantMemory asked.Form = Unit {0}
MayWantMemory (asked.Request (Edit e)) = Unit {0}
MayWantMemory (asked.Request (Ask n f q)) = Unit {0}
MayWantMemory (asked.Request Publish) = ⊥
MayWantMemory (asked.Request (Hold n)) = ⊥
MayWantMemory (asked.Request (Text n)) = ⊥
MayWantMemory (asked.Request (Conclusions n f)) = ⊥
MayWantMemory asked.Nothing = ⊥
MayWantMemory asked.Quit = ⊥
MayWantMemory asked.Variables = ⊥
