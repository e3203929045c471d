-- Lines that are tagged literals.
use Rattle.std.specs.Prelude.{◌≡◌, ℕ, Bool, true, false, ◌==◌, List, ◌∷◌, Option, Some, None, option_and_then, if◌then◌else◌}
use Rattle.std.specs.List.{list_any}
use Rattle.dl_lit.specs.declared.literal.Tagged.{Tagged}
use Rattle.dl_lit.specs.declared.literal.Tag.{Tag}
use Rattle.dl_lit.specs.declared.literal.Family.{Family}
use Rattle.dl_lit.specs.declared.literal.Family.TheVariants.{Definite, Blocking, Propagating, Support}
use Rattle.dl_print.specs.Text.{plus_byte, family_letter}
use Rattle.dl_read.specs.Grammar.{is_blank, begins_with, IsLiteral}

-- The line is the sign, directly the family's letter, at least one blank, and the literal.
pub record IsTagged (line : List ℕ) (x : Tagged) : Type 0 where
  pub rest : List ℕ
  pub order : line ≡ plus_byte x.plus ∷ family_letter x.family ∷ rest
  pub blank : begins_with is_blank rest ≡ true
  pub literal : IsLiteral rest x.literal

abbrev pub begins_comment : ℕ → Bool
begins_comment b = b == 35

-- no byte begins a comment
abbrev pub HasNoComment : List ℕ → Type 0
HasNoComment line = list_any begins_comment line ≡ false

-- the same where a comment is outside the form, as in a certificate
abbrev pub IsBareTagged : List ℕ → Tagged → Type 0
IsBareTagged line x = IsTagged line x × HasNoComment line

abbrev pub plus_of : ℕ → Option Bool
plus_of b = if b == 43 then Some true else (if b == 45 then Some false else None)

abbrev pub family_of : ℕ → Option Family
family_of b =
    if b == 68 then Some Definite
    else (if b == 100 then Some Blocking
    else (if b == 97 then Some Propagating
    else (if b == 115 then Some Support else None)))

-- the tag that a sign and a letter make
abbrev pub tag_of : ℕ → ℕ → Option Tag
tag_of sign letter = option_and_then (λ p. option_and_then (λ f. Some (record { plus = p; family = f })) (family_of letter)) (plus_of sign)

-- the line begins with this tag, a blank stands behind it, and this is the rest
pub record HasTag (line : List ℕ) (tag : Tag) (rest : List ℕ) : Type 0 where
  pub order : line ≡ plus_byte tag.plus ∷ family_letter tag.family ∷ rest
  pub blank : begins_with is_blank rest ≡ true
