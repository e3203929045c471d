-- Which answers a checker accepts.
use Rattle.std.specs.Prelude.{◌≡◌, Bool, true, false, List, [], ◌∷◌, ◌++◌, Contains, Option, Some, None, Result, Ok, Err}
use Rattle.dl_base.specs.declared.memory.Memory.{Memory}
use Rattle.dl_lit.specs.declared.literal.Literal.{Literal}
use Rattle.dl_lit.specs.declared.literal.Tagged.{Tagged}
use Rattle.dl_lit.specs.declared.literal.Family.{Family}
use Rattle.dl_lit.specs.Literal.{tagged}
use Rattle.dl_theory.specs.declared.answer.Verdict.{Verdict}
use Rattle.dl_theory.specs.declared.answer.Verdict.TheVariants.{Proved, Refuted, Neither}
use Rattle.dl_theory.specs.declared.answer.Certificate.{Certificate}
use Rattle.dl_theory.specs.declared.answer.Certificate.TheVariants.{Derivation, Gap}
use Rattle.dl_theory.specs.declared.answer.Answer.{Answer}
use Rattle.dl_theory.specs.Lists.{TheoryLists}
use Rattle.dl_theory.specs.Derivations.{IsDerivation, IsGap}
use Rattle.dl_check.specs.declared.accepted.Accepted.{Accepted}
use Rattle.dl_check.specs.declared.flaw.CheckStop.{CheckStop}
use Rattle.dl_check.specs.declared.flaw.CheckStop.TheVariants as stop

abbrev pub EndsWith : List Tagged → Tagged → Type 0
EndsWith list x = (before : List Tagged) × (list ≡ before ++ x ∷ [])

-- a derivation that ends with x
abbrev pub DerivesLast : TheoryLists → Tagged → List Tagged → Type 0
DerivesLast T x steps = EndsWith steps x × IsDerivation T steps

-- a gap with both tags of q
abbrev pub LeavesOpen : TheoryLists → Family → Literal → List Tagged → Type 0
LeavesOpen T f q members = Contains members (tagged true f q) × Contains members (tagged false f q) × IsGap T members

-- the certificate shows the verdict on q
abbrev pub Shows : TheoryLists → Family → Literal → Verdict → Certificate → Type 0
Shows T f q Proved (Derivation steps) = DerivesLast T (tagged true f q) steps
Shows T f q Refuted (Derivation steps) = DerivesLast T (tagged false f q) steps
Shows T f q Neither (Gap members) = LeavesOpen T f q members
Shows T f q Proved (Gap members) = ⊥
Shows T f q Refuted (Gap members) = ⊥
Shows T f q Neither (Derivation steps) = ⊥

-- an answer is accepted, as what it is, exactly where its certificate shows its verdict
abbrev pub AnswersCheck : TheoryLists → Family → Literal → Answer → Result (Option Accepted) Memory → Type 0
AnswersCheck T f q answer (Ok (Some accepted)) =
    (accepted ≡ record { family = f; literal = q; verdict = answer.verdict }) × Shows T f q answer.verdict answer.certificate
AnswersCheck T f q answer (Ok None) = ¬ Shows T f q answer.verdict answer.certificate
AnswersCheck T f q answer (Err _) = Unit {0}

-- whether a list was accepted
abbrev pub Tells : Result (Unit {0}) CheckStop → Bool → Type 0
Tells (Ok _) b = b ≡ true
Tells (Err (stop.Rejected _)) b = b ≡ false
Tells (Err stop.Memory) b = ⊥
