-- The first line of a certificate.
use Rattle.std.specs.Prelude.{ℕ, List, codes}
use Rattle.dl_lit.specs.declared.literal.Tagged.{Tagged}
use Rattle.dl_theory.specs.declared.answer.Certificate.{Certificate}
use Rattle.dl_theory.specs.declared.answer.Certificate.TheVariants as certificate
use Rattle.dl_check.specs.declared.certificate.Heading.{Heading}
use Rattle.dl_check.specs.declared.certificate.Heading.TheVariants.{Derivation, Gap}

abbrev pub heading_line : Heading → List ℕ
heading_line Derivation = codes "derivation"
heading_line Gap = codes "gap"

abbrev pub with_heading : Heading → List Tagged → Certificate
with_heading Derivation members = certificate.Derivation members
with_heading Gap members = certificate.Gap members
