-- What an answer says of the members of a list.
use Rattle.std.proofs.Common.{List, Ok, Err}
use Rattle.std.specs.Prelude.{All, Contains, Result, OnOk}
use Rattle.std.proofs.lemmas.List.Elements.{All-contains_itself}
use Rattle.dl_base.proofs.Members.{all_more}
use Rattle.dl_lit.specs.declared.literal.Tagged.{Tagged}
use Rattle.dl_theory.specs.Lists.{TheoryLists}
use Rattle.dl_theory.specs.Derivations.{Follows, IsDerivation}
use Rattle.dl_theory.proofs.Steps.{member_follows, gaps_hold}
use Rattle.dl_check.specs.declared.checker.Checker.{Checker}
use Rattle.dl_check.specs.declared.flaw.CheckStop.{CheckStop}
use Rattle.dl_check.specs.Checking.{StandsFor}
use Rattle.dl_check.specs.Flaws.{AnswersDerivation, AnswersGap}

pub members_follow : (T : TheoryLists) (list : List Tagged) → IsDerivation T list → All (Follows T) list
members_follow T list h = all_more (Contains list) (Follows T) list (λ x m _. member_follows T list x h m) (All-contains_itself list)

pub accepted_follow : (c : Checker) (list : List Tagged) (r : Result (Unit {0}) CheckStop) → ((T : TheoryLists) → StandsFor c T → AnswersDerivation T list r)
    → OnOk r ((T : TheoryLists) → StandsFor c T → All (Follows T) list)
accepted_follow c list (Ok u) h = λ T s. members_follow T list (h T s).0
accepted_follow c list (Err e) h = tt

pub accepted_unproved : (c : Checker) (list : List Tagged) (r : Result (Unit {0}) CheckStop) → ((T : TheoryLists) → StandsFor c T → AnswersGap T list r)
    → OnOk r ((T : TheoryLists) → StandsFor c T → All (λ x. ¬ Follows T x) list)
accepted_unproved c list (Ok u) h = λ T s. gaps_hold T list (h T s)
accepted_unproved c list (Err e) h = tt
