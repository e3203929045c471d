-- What the bytes of a certificate say.
use Rattle.std.specs.Prelude.{◌≡◌, ◌⊎◌, ℕ, ◌+◌, ◌-◌, ◌==◌, List, [], ◌∷◌, ◌++◌, length, take, slice_index, All, codes, if◌then◌else◌}
use Rattle.std.specs.List.{AllZip}
use Rattle.dl_lit.specs.declared.literal.Tagged.{Tagged}
use Rattle.dl_theory.specs.declared.answer.Certificate.{Certificate}
use Rattle.dl_theory.specs.declared.answer.Certificate.TheVariants.{Derivation, Gap}
use Rattle.dl_read.specs.Files.{lines_of}
use Rattle.dl_read.specs.Tagged.{IsBareTagged}
use Rattle.dl_check.specs.declared.flaw.CertStop.{CertStop}
use Rattle.dl_check.specs.declared.flaw.CertStop.TheVariants.{BadLine, Memory}

-- a last LF begins no line
abbrev pub without_last_lf : List ℕ → List ℕ
without_last_lf bytes = if slice_index bytes (length bytes - 1) == 10 then take (length bytes - 1) bytes else bytes

-- The bytes are cut at each LF, and one CR at the end of a line is dropped. A last piece that is empty is no line;
-- an empty file has one empty line.
abbrev pub certificate_lines : List ℕ → List (List ℕ)
certificate_lines bytes = lines_of (without_last_lf bytes)

-- `derivation` or `gap`, and then a tagged literal on each line
abbrev pub IsCertificate : List (List ℕ) → Certificate → Type 0
IsCertificate [] cert = ⊥
IsCertificate (line ∷ lines) (Derivation members) = (line ≡ codes "derivation") × AllZip IsBareTagged lines members
IsCertificate (line ∷ lines) (Gap members) = (line ≡ codes "gap") × AllZip IsBareTagged lines members

abbrev pub IsFirstLine : List ℕ → Type 0
IsFirstLine line = (line ≡ codes "derivation") ⊎ (line ≡ codes "gap")

abbrev pub IsMemberLine : List ℕ → Type 0
IsMemberLine line = (x : Tagged) × IsBareTagged line x

-- these lines begin a certificate
abbrev pub BeginCertificate : List (List ℕ) → Type 0
BeginCertificate [] = Unit {0}
BeginCertificate (line ∷ lines) = IsFirstLine line × All IsMemberLine lines

-- the line is outside the form where these lines stand before it
abbrev pub IsOutside : List (List ℕ) → List ℕ → Type 0
IsOutside [] line = ¬ IsFirstLine line
IsOutside (_ ∷ _) line = ¬ IsMemberLine line

-- the first line outside the form, counted from 1
pub record IsFirstBadLine (lines : List (List ℕ)) (k : ℕ) : Type 0 where
  pub before : List (List ℕ)
  pub line : List ℕ
  pub after : List (List ℕ)
  pub order : lines ≡ before ++ line ∷ after
  pub place : k ≡ length before + 1
  pub fine : BeginCertificate before
  pub bad : IsOutside before line

-- why no certificate is read
abbrev pub IsCertStop : List (List ℕ) → CertStop → Type 0
IsCertStop lines (BadLine k) = IsFirstBadLine lines k
IsCertStop lines Memory = Unit {0}

-- why a line is not read as a member
abbrev pub IsMemberStop : List ℕ → ℕ → CertStop → Type 0
IsMemberStop line number (BadLine k) = (k ≡ number) × (¬ IsMemberLine line)
IsMemberStop line number Memory = Unit {0}

-- the line says this member and no other
abbrev pub IsOnlyMember : List ℕ → Tagged → Type 0
IsOnlyMember line x = IsBareTagged line x × ((y : Tagged) → IsBareTagged line y → y ≡ x)

-- the members that lines from a number on say, or the first line that says none
pub record IsFirstBadMember (lines : List (List ℕ)) (first k : ℕ) : Type 0 where
  pub before : List (List ℕ)
  pub line : List ℕ
  pub after : List (List ℕ)
  pub order : lines ≡ before ++ line ∷ after
  pub place : k ≡ first + length before
  pub fine : All IsMemberLine before
  pub bad : ¬ IsMemberLine line

abbrev pub IsMembersStop : List (List ℕ) → ℕ → CertStop → Type 0
IsMembersStop lines first (BadLine k) = IsFirstBadMember lines first k
IsMembersStop lines first Memory = Unit {0}

-- the lines are this certificate and no other
abbrev pub IsOnlyCertificate : List (List ℕ) → Certificate → Type 0
IsOnlyCertificate lines cert = IsCertificate lines cert × ((other : Certificate) → IsCertificate lines other → other ≡ cert)
