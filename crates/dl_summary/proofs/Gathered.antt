-- Accepted answers as conclusions.
use Rattle.std.proofs.Common.{◌≡◌, suc, List, [], ◌∷◌, map, length, Ok, Err, Global, ap, sym, subst, refl}
use Rattle.std.specs.Prelude.{All, Contains, IfOk, MatchResult, Result, Vec}
use Rattle.std.specs.List.{AllZip}
use Rattle.std.proofs.lemmas.List.Elements.{All-nil, All-cons}
use Rattle.dl_base.specs.declared.memory.Memory.{Memory}
use Rattle.dl_lit.specs.declared.literal.Literal.{Literal}
use Rattle.dl_lit.specs.declared.literal.Family.{Family}
use Rattle.dl_theory.specs.Lists.{TheoryLists}
use Rattle.dl_theory.specs.Listings.{AreLiterals}
use Rattle.dl_theory.specs.Verdicts.{IsVerdict}
use Rattle.dl_conclusions.specs.declared.conclusion.Conclusion.{Conclusion}
use Rattle.dl_conclusions.specs.Conclusions.{AreConclusions}
use Rattle.dl_check.specs.declared.accepted.Accepted.{Accepted}
use Rattle.dl_summary.specs.Survey.{accepted_in}
use Rattle.dl_summary.specs.declared.families.Answers.{Answers}
use Rattle.dl_summary.specs.Answers.{IsAnswer, AreAnswers, IsAnswered, AreAnswered, verdict_of}

abbrev pub conclusion_of : Accepted → Conclusion
conclusion_of a = record { literal = a.literal; verdict = a.verdict }

abbrev pub conclusions_of : List Accepted → List Conclusion
conclusions_of answers = map conclusion_of answers

pub verdicts_of : (answers : List Accepted) → map verdict_of answers ≡ map (λ c. c.verdict) (conclusions_of answers)
verdicts_of [] = refl
verdicts_of (a ∷ answers) = ap (λ l. a.verdict ∷ l) (verdicts_of answers)

module _ (T : TheoryLists) where
  all_there : (cs : List Conclusion) (each : List Answers) → AllZip (λ c (r : Result Answers Memory). IfOk r (IsAnswered T c.literal)) cs (map (λ a. Ok a) each)
      → AreAnswered T (map (λ c. c.literal) cs) each
  all_there [] [] h = tt
  all_there [] (a ∷ each) h = absurd h
  all_there (c ∷ cs) [] h = absurd h
  all_there (c ∷ cs) (a ∷ each) h = (h.0, all_there cs each h.1)

  -- where each answer was there
  gathered : (cs : List Conclusion) (rs : List (Result Answers Memory)) (each : List Answers) → rs ≡ map (λ a. Ok a) each
      → AllZip (λ c r. IfOk r (IsAnswered T c.literal)) cs rs → AreAnswered T (map (λ c. c.literal) cs) each
  gathered cs rs each same h =
      all_there cs each (subst (λ (l : List (Result Answers Memory)). AllZip (λ c r. IfOk r (IsAnswered T c.literal)) cs l) same h)

  -- and they were collected
  pub all_gathered : (cs : List Conclusion) (rs : List (Result Answers Memory)) (r : Result (Vec Answers Global) Memory)
      → AllZip (λ c r. IfOk r (IsAnswered T c.literal)) cs rs
      → MatchResult r (λ v. (each : List Answers) × (rs ≡ map Ok each) × (v.items ≡ each)) (λ e. Contains rs (Err e))
      → IfOk r (λ v. AreAnswered T (map (λ c. c.literal) cs) v.items)
  all_gathered cs rs (Ok v) h m = subst (AreAnswered T (map (λ c. c.literal) cs)) (sym m.2) (gathered cs rs m.0 m.1 h)
  all_gathered cs rs (Err e) h m = tt

module _ (T : TheoryLists) (f : Family) where
  -- those of one family
  pub answers_in : (pick : Answers → Accepted) → ((q : Literal) (a : Answers) → IsAnswered T q a → IsAnswer T f q (pick a)) → (qs : List Literal) (each : List Answers)
      → AreAnswered T qs each → AreAnswers T f qs (map pick each)
  answers_in pick picked [] [] h = tt
  answers_in pick picked [] (a ∷ each) h = absurd h
  answers_in pick picked (q ∷ qs) [] h = absurd h
  answers_in pick picked (q ∷ qs) (a ∷ each) h = (picked q a h.0, answers_in pick picked qs each h.1)

  pub answers_listed : (qs : List Literal) (answers : List Accepted) → AreAnswers T f qs answers → map (λ c. c.literal) (conclusions_of answers) ≡ qs
  answers_listed [] [] h = refl
  answers_listed [] (a ∷ answers) h = absurd h
  answers_listed (q ∷ qs) [] h = absurd h
  answers_listed (q ∷ qs) (a ∷ answers) h = λ i. h.0.literal i ∷ answers_listed qs answers h.1 i

  pub answers_long : (qs : List Literal) (answers : List Accepted) → AreAnswers T f qs answers → length answers ≡ length qs
  answers_long [] [] h = refl
  answers_long [] (a ∷ answers) h = absurd h
  answers_long (q ∷ qs) [] h = absurd h
  answers_long (q ∷ qs) (a ∷ answers) h = ap suc (answers_long qs answers h.1)

  answers_right : (qs : List Literal) (answers : List Accepted) → AreAnswers T f qs answers → All (λ c. IsVerdict T f c.literal c.verdict) (conclusions_of answers)
  answers_right [] [] h = All-nil (λ c. IsVerdict T f c.literal c.verdict)
  answers_right [] (a ∷ answers) h = absurd h
  answers_right (q ∷ qs) [] h = absurd h
  answers_right (q ∷ qs) (a ∷ answers) h =
      All-cons (λ c. IsVerdict T f c.literal c.verdict) (conclusion_of a) (conclusions_of answers)
      (subst (λ (p : Literal). IsVerdict T f p a.verdict) (sym h.0.literal) h.0.right) (answers_right qs answers h.1)

  -- they are the conclusions in the family
  pub answers_conclude : (qs : List Literal) (answers : List Accepted) → AreLiterals T qs → AreAnswers T f qs answers → AreConclusions T f (conclusions_of answers)
  answers_conclude qs answers listed h = record {
    listed = subst (AreLiterals T) (sym (answers_listed qs answers h)) listed;
    right = answers_right qs answers h;
  }

  -- and the conclusions are what was accepted
  pub answers_again : (qs : List Literal) (answers : List Accepted) → AreAnswers T f qs answers → answers ≡ map (accepted_in f) (conclusions_of answers)
  answers_again [] [] h = refl
  answers_again [] (a ∷ answers) h = absurd h
  answers_again (q ∷ qs) [] h = absurd h
  answers_again (q ∷ qs) (a ∷ answers) h =
      λ i. record { family = h.0.family i; literal = a.literal; verdict = a.verdict } ∷ answers_again qs answers h.1 i
