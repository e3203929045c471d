-- The requests that make an edit.
use Rattle.std.specs.Prelude.{◌≡◌, ◌⊎◌, ℕ, true, List, [], ◌∷◌, ◌++◌, Option, None, Some, codes}
use Rattle.dl_theory.specs.declared.edit.Edit.{Edit}
use Rattle.dl_theory.specs.declared.edit.Edit.TheVariants.{AddRule, DropRule, AddFact, DropFact, AddPair, DropPair}
use Rattle.dl_read.specs.declared.token.Token.{Token}
use Rattle.dl_read.specs.declared.token.Token.TheVariants.{Name, Mark}
use Rattle.dl_read.specs.declared.token.Mark.TheVariants.{Facts, Above}
use Rattle.dl_read.specs.declared.statement.Statement.{Statement}
use Rattle.dl_read.specs.declared.statement.Statement.TheVariants as says
use Rattle.dl_read.specs.Grammar.{is_blank, begins_with, AreBlank, AreTokensOf, literal_tokens, Says}

-- The line is this word, free blanks before it, at least one behind it, and the rest.
pub record BeginsWith (word line rest : List ℕ) : Type 0 where
  pub blanks : List ℕ
  pub are_blank : AreBlank blanks
  pub order : line ≡ blanks ++ (word ++ rest)
  pub spaced : begins_with is_blank rest ≡ true

-- a fact, a pair or a rule with its label is added
abbrev pub added : Statement → Option Edit
added says.Blank = None
added (says.Fact q) = Some (AddFact q)
added (says.Rule None kind body head) = None
added (says.Rule (Some label) kind body head) = Some (AddRule (record { label = label; kind = kind; body = body; head = head }))
added (says.Pair p) = Some (AddPair p)

-- what stands behind `add`
abbrev pub Adds : List ℕ → Edit → Type 0
Adds line e = (s : Statement) × Says line s × (added s ≡ Some e)

-- a label, `>>` and a literal, or a pair is dropped
abbrev pub AreDropped : List Token → Edit → Type 0
AreDropped ts (DropRule label) = ts ≡ Name label ∷ []
AreDropped ts (DropFact q) = ts ≡ Mark Facts ∷ literal_tokens q
AreDropped ts (DropPair p) = ts ≡ Name p.upper ∷ Mark Above ∷ Name p.lower ∷ []
AreDropped ts (AddRule r) = ⊥
AreDropped ts (AddFact q) = ⊥
AreDropped ts (AddPair p) = ⊥

-- what stands behind `drop`
abbrev pub Drops : List ℕ → Edit → Type 0
Drops line e = (ts : List Token) × AreTokensOf ts line × AreDropped ts e

-- The line is the request that makes this edit.
abbrev pub IsEditLine : List ℕ → Edit → Type 0
IsEditLine line e =
    ((rest : List ℕ) × BeginsWith (codes "add") line rest × Adds rest e) ⊎ ((rest : List ℕ) × BeginsWith (codes "drop") line rest × Drops rest e)
