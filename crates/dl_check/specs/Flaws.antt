-- What a check of a list answers.
use Rattle.std.specs.Prelude.{◌≡◌, ◌≢◌, ◌⊎◌, ℕ, List, [], Some, Result, Ok, Err, All, Contains, take, slice_get}
use Rattle.dl_lit.specs.declared.literal.Tagged.{Tagged}
use Rattle.dl_base.specs.Paths.{IsDistinct}
use Rattle.dl_theory.specs.Lists.{TheoryLists}
use Rattle.dl_theory.specs.Conditions.{Meets}
use Rattle.dl_theory.specs.Derivations.{IsDerivation, IsGap}
use Rattle.dl_check.specs.declared.flaw.Flaw.{Flaw}
use Rattle.dl_check.specs.declared.flaw.Flaw.TheVariants.{Empty, Repeat, Step}
use Rattle.dl_check.specs.declared.flaw.CheckStop.{CheckStop}
use Rattle.dl_check.specs.declared.flaw.CheckStop.TheVariants.{Rejected, Memory}

-- the members before a place are fine, and the one at it is bad behind them
pub record IsFirstBad (Fine : List Tagged → Type 0) (Bad : List Tagged → Tagged → Type 0) (list : List Tagged) (at : ℕ) : Type 0 where
  pub member : Tagged
  pub stands : slice_get list at ≡ Some member
  pub fine : Fine (take at list)
  pub bad : Bad (take at list) member

-- a repeat comes first at one place
abbrev pub IsFlaw : (List Tagged → Type 0) → (List Tagged → Tagged → Type 0) → List Tagged → Flaw → Type 0
IsFlaw Fine Bad list Empty = list ≡ []
IsFlaw Fine Bad list (Repeat at) = IsFirstBad Fine (λ before x. Contains before x) list at
IsFlaw Fine Bad list (Step at) = IsFirstBad Fine (λ before x. (¬ Contains before x) × Bad before x) list at

-- a member that does not meet its condition over those before it
abbrev pub IsDerivationFlaw : TheoryLists → List Tagged → Flaw → Type 0
IsDerivationFlaw T list flaw = IsFlaw (IsDerivation T) (λ before x. ¬ Meets T (Contains before) x) list flaw

-- a member meets its condition where exactly the members of the list count as not derived
abbrev pub IsMet : TheoryLists → List Tagged → Tagged → Type 0
IsMet T list x = Meets T (λ y. ¬ Contains list y) x

abbrev pub IsGapFlaw : TheoryLists → List Tagged → Flaw → Type 0
IsGapFlaw T list flaw = IsFlaw (λ before. IsDistinct before × All (λ x. ¬ IsMet T list x) before) (λ _ x. IsMet T list x) list flaw

abbrev pub AnswersDerivation : TheoryLists → List Tagged → Result (Unit {0}) CheckStop → Type 0
AnswersDerivation T list (Ok _) = IsDerivation T list × (list ≢ [])
AnswersDerivation T list (Err (Rejected flaw)) = IsDerivationFlaw T list flaw
AnswersDerivation T list (Err Memory) = Unit {0}

abbrev pub AnswersGap : TheoryLists → List Tagged → Result (Unit {0}) CheckStop → Type 0
AnswersGap T list (Ok _) = IsGap T list
AnswersGap T list (Err (Rejected flaw)) = IsGapFlaw T list flaw
AnswersGap T list (Err Memory) = Unit {0}

-- this flaw is named, or memory ran out
abbrev pub IsOnlyFlaw : Flaw → Result (Unit {0}) CheckStop → Type 0
IsOnlyFlaw flaw (Ok _) = ⊥
IsOnlyFlaw flaw (Err stop) = (stop ≡ Rejected flaw) ⊎ (stop ≡ Memory)
