-- What the program says of a certificate.
use Rattle.std.specs.Prelude.{◌≡◌, ◌≢◌, ◌⊎◌, ℕ, ◌+◌, List, [], ◌∷◌, ◌++◌, codes, decimal, Result, Ok, Err}
use Rattle.dl_theory.specs.declared.answer.Certificate.{Certificate}
use Rattle.dl_theory.specs.declared.answer.Certificate.TheVariants.{Derivation, Gap}
use Rattle.dl_theory.specs.Lists.{TheoryLists}
use Rattle.dl_theory.specs.Derivations.{IsDerivation, IsGap}
use Rattle.dl_check.specs.declared.flaw.Flaw.{Flaw}
use Rattle.dl_check.specs.declared.flaw.Flaw.TheVariants.{Empty, Repeat, Step}
use Rattle.dl_check.specs.declared.flaw.CheckStop.{CheckStop}
use Rattle.dl_check.specs.declared.flaw.CheckStop.TheVariants as check_stop
use Rattle.dl_check.specs.Flaws.{IsDerivationFlaw, IsGapFlaw}
use Rattle.dl_check.specs.Certificates.{certificate_lines, IsCertificate, IsFirstBadLine}
use Rattle.dl_replies.specs.declared.checked.Checked.{Checked}
use Rattle.dl_replies.specs.declared.checked.Checked.TheVariants.{Accepted, Rejected}

-- the line of a flaw: the first member stands on line 2
abbrev pub flaw_line : Flaw → ℕ
flaw_line Empty = 2
flaw_line (Repeat at) = at + 2
flaw_line (Step at) = at + 2

-- a derivation with a member, or a gap
abbrev pub IsAccepted : TheoryLists → Certificate → Type 0
IsAccepted T (Derivation list) = IsDerivation T list × (list ≢ [])
IsAccepted T (Gap list) = IsGap T list

abbrev pub HasFlaw : TheoryLists → Certificate → Flaw → Type 0
HasFlaw T (Derivation list) flaw = IsDerivationFlaw T list flaw
HasFlaw T (Gap list) flaw = IsGapFlaw T list flaw

-- what is said of a certificate that was read
abbrev pub IsJudged : TheoryLists → Certificate → Checked → Type 0
IsJudged T cert Accepted = IsAccepted T cert
IsJudged T cert (Rejected line) = (flaw : Flaw) × HasFlaw T cert flaw × (line ≡ flaw_line flaw)

-- what a checker's answer comes to
abbrev pub IsAnswer : Result (Unit {0}) CheckStop → Checked → Type 0
IsAnswer (Ok _) Accepted = Unit {0}
IsAnswer (Err (check_stop.Rejected flaw)) (Rejected line) = line ≡ flaw_line flaw
IsAnswer (Err (check_stop.Rejected flaw)) Accepted = ⊥
IsAnswer (Err check_stop.Memory) x = ⊥
IsAnswer (Ok _) (Rejected line) = ⊥

-- what is said of the bytes of a certificate: its first line outside the form is rejected, and else its first bad member
abbrev pub IsChecked : TheoryLists → List ℕ → Checked → Type 0
IsChecked T bytes Accepted = (cert : Certificate) × IsCertificate (certificate_lines bytes) cert × IsAccepted T cert
IsChecked T bytes (Rejected line) =
    IsFirstBadLine (certificate_lines bytes) line
    ⊎ ((cert : Certificate) × IsCertificate (certificate_lines bytes) cert × IsJudged T cert (Rejected line))

-- this is said of them, and nothing else can be
abbrev pub IsOnlyChecked : TheoryLists → List ℕ → Checked → Type 0
IsOnlyChecked T bytes x = IsChecked T bytes x × ((y : Checked) → IsChecked T bytes y → y ≡ x)

abbrev pub checked_line : Checked → List ℕ
checked_line Accepted = codes "accepted\n"
checked_line (Rejected line) = codes "rejected " ++ (decimal line ++ (10 ∷ []))
