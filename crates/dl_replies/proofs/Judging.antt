-- What a checker answers is what is said of the certificate.
use Rattle.std.proofs.Common.{◌≡◌, ◌∙◌, ◌⊎◌, inl, inr, ℕ, List, refl, sym, ap, subst}
use Rattle.std.specs.Prelude.{Result, Ok, Err, MatchResult}
use Rattle.dl_lit.specs.declared.literal.Tagged.{Tagged}
use Rattle.dl_theory.specs.declared.answer.Certificate.{Certificate}
use Rattle.dl_theory.specs.declared.answer.Certificate.TheVariants.{Derivation, Gap}
use Rattle.dl_theory.specs.Lists.{TheoryLists}
use Rattle.dl_check.specs.declared.flaw.Flaw.{Flaw}
use Rattle.dl_check.specs.declared.flaw.CertStop.{CertStop}
use Rattle.dl_check.specs.declared.flaw.CertStop.TheVariants as cert_stop
use Rattle.dl_check.specs.declared.flaw.CheckStop.{CheckStop}
use Rattle.dl_check.specs.declared.flaw.CheckStop.TheVariants as check_stop
use Rattle.dl_check.specs.Flaws.{AnswersDerivation, AnswersGap}
use Rattle.dl_check.specs.Certificates.{certificate_lines, IsCertificate, IsFirstBadLine}
use Rattle.dl_check.proofs.FirstFlaws.{derivation_rejected, gap_rejected}
use Rattle.dl_replies.specs.declared.checked.Checked.{Checked}
use Rattle.dl_replies.specs.declared.checked.Checked.TheVariants.{Accepted, Rejected}
use Rattle.dl_replies.specs.Checks.{flaw_line, IsJudged, IsAnswer, IsChecked, IsOnlyChecked}

pub derivation_judged : (T : TheoryLists) (list : List Tagged) (r : Result (Unit {0}) CheckStop) (x : Checked) → AnswersDerivation T list r → IsAnswer r x → IsJudged T (Derivation list) x
derivation_judged T list (Ok u) Accepted h i = h
derivation_judged T list (Ok u) (Rejected line) h i = absurd i
derivation_judged T list (Err (check_stop.Rejected flaw)) Accepted h i = absurd i
derivation_judged T list (Err (check_stop.Rejected flaw)) (Rejected line) h i = (flaw, h, i)
derivation_judged T list (Err check_stop.Memory) x h i = absurd i

pub gap_judged : (T : TheoryLists) (list : List Tagged) (r : Result (Unit {0}) CheckStop) (x : Checked) → AnswersGap T list r → IsAnswer r x → IsJudged T (Gap list) x
gap_judged T list (Ok u) Accepted h i = h
gap_judged T list (Ok u) (Rejected line) h i = absurd i
gap_judged T list (Err (check_stop.Rejected flaw)) Accepted h i = absurd i
gap_judged T list (Err (check_stop.Rejected flaw)) (Rejected line) h i = (flaw, h, i)
gap_judged T list (Err check_stop.Memory) x h i = absurd i

-- A certificate is judged in one way: no flaw is named of one that is accepted, and no two flaws of one that is rejected.

same_flaw : (flaw other : Flaw) → (check_stop.Rejected flaw ≡ check_stop.Rejected other) ⊎ (check_stop.Rejected flaw ≡ check_stop.Memory) → flaw ≡ other
same_flaw flaw other (inl e) = cc
same_flaw flaw other (inr e) = cc

same_line : (flaw other : Flaw) (line k : ℕ) → flaw ≡ other → line ≡ flaw_line flaw → k ≡ flaw_line other → Rejected k ≡ Rejected line
same_line flaw other line k e l m = ap (λ (n : ℕ). Rejected n) (m ∙ sym (ap flaw_line e) ∙ sym l)

pub judged_once : (T : TheoryLists) (cert : Certificate) (x y : Checked) → IsJudged T cert x → IsJudged T cert y → y ≡ x
judged_once T cert Accepted Accepted h i = refl
judged_once T (Derivation list) Accepted (Rejected line) h i = absurd (derivation_rejected T list (Ok tt) i.0 h i.1)
judged_once T (Gap list) Accepted (Rejected line) h i = absurd (gap_rejected T list (Ok tt) i.0 h i.1)
judged_once T (Derivation list) (Rejected line) Accepted h i = absurd (derivation_rejected T list (Ok tt) h.0 i h.1)
judged_once T (Gap list) (Rejected line) Accepted h i = absurd (gap_rejected T list (Ok tt) h.0 i h.1)
judged_once T (Derivation list) (Rejected line) (Rejected k) h i =
    same_line h.0 i.0 line k (same_flaw h.0 i.0 (derivation_rejected T list (Err (check_stop.Rejected h.0)) i.0 h.1 i.1)) h.2 i.2
judged_once T (Gap list) (Rejected line) (Rejected k) h i =
    same_line h.0 i.0 line k (same_flaw h.0 i.0 (gap_rejected T list (Err (check_stop.Rejected h.0)) i.0 h.1 i.1)) h.2 i.2

-- what is said of a certificate that was read is said of its bytes
checked_so : (T : TheoryLists) (bytes : List ℕ) (cert : Certificate) (x : Checked) → IsCertificate (certificate_lines bytes) cert → IsJudged T cert x → IsChecked T bytes x
checked_so T bytes cert Accepted c j = (cert, c, j)
checked_so T bytes cert (Rejected line) c j = inr (cert, c, j)

module _ (T : TheoryLists) (bytes : List ℕ) (read : Result Certificate CertStop)
    (reads : (cert : Certificate) → IsCertificate (certificate_lines bytes) cert → MatchResult read (λ r. r ≡ cert) (λ stop. stop ≡ cert_stop.Memory))
    (stops : (k : ℕ) → IsFirstBadLine (certificate_lines bytes) k → MatchResult read (λ _. ⊥) (λ stop. (stop ≡ cert_stop.BadLine k) ⊎ (stop ≡ cert_stop.Memory))) where
  -- the bytes are read as a certificate, which is judged
  pub read_once : (cert : Certificate) → read ≡ Ok cert → IsCertificate (certificate_lines bytes) cert → (x : Checked) → IsJudged T cert x → IsOnlyChecked T bytes x
  read_once cert is c x j =
      (checked_so T bytes cert x c j, λ y i. other y i)
    where
      same : (d : Certificate) → IsCertificate (certificate_lines bytes) d → cert ≡ d
      same d i = subst (λ (r : Result Certificate CertStop). MatchResult r (λ r. r ≡ d) (λ stop. stop ≡ cert_stop.Memory)) is (reads d i)

      none : (k : ℕ) → IsFirstBadLine (certificate_lines bytes) k → ⊥
      none k b = subst (λ (r : Result Certificate CertStop). MatchResult r (λ _. ⊥) (λ stop. (stop ≡ cert_stop.BadLine k) ⊎ (stop ≡ cert_stop.Memory))) is (stops k b)

      other : (y : Checked) → IsChecked T bytes y → y ≡ x
      other Accepted (d, i, a) = judged_once T cert x Accepted j (subst (λ (e : Certificate). IsJudged T e Accepted) (sym (same d i)) a)
      other (Rejected line) (inl bad) = absurd (none line bad)
      other (Rejected line) (inr (d, i, r)) = judged_once T cert x (Rejected line) j (subst (λ (e : Certificate). IsJudged T e (Rejected line)) (sym (same d i)) r)
