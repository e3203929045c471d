use Rattle.std.proofs.Common.{◌≡◌, ◌⊎◌, [], ◌∷◌, None, true, inl, inr, refl, sym}
use Rattle.dl_io.specs.House.{standard}
use Rattle.dl_files.specs.declared.status.Status.TheVariants.{Done, Refused, Memory}
use Rattle.dl_theory.specs.Lists.{TheoryLists}
use Rattle.dl_files.specs.declared.refusal.Refusal.{Refusal}
use Rattle.dl_files.specs.Theories.{IsTheoryFile, IsRefusal}
use Rattle.dl_words.specs.Words.{form}
use Rattle.ddl.proofs.Exact.{ends_so, usage_of, serves_otherwise, done_loads, shown_loads, shown_refused, run_done, alone_unserved, run_unserved, refused_unserved, loads_done, refused_refused}
use Rattle.ddl.proofs.law.statuses_are_exact.Goals as goal

pub returns-clause-usage : goal.returns-clause-usage
returns-clause-usage c = λ tells old new words answers.
    elim answers as (λ _. form words ≡ None) [
      | inl says ↦ usage_of (form words) says.names says.may_end
      | inr (inl fails) ↦ absurd (cc (fails.fault))
      | inr (inr (inl lacks)) ↦ absurd (cc (lacks.memory))
      | inr (inr (inr serves)) ↦ absurd (serves_otherwise tells old new words (standard ∷ []) serves)
    ]

pub returns-clause-done : goal.returns-clause-done
returns-clause-done c = λ old new words asked file bytes answers is_form named held.
    elim answers as (λ _. (T : TheoryLists) × IsTheoryFile bytes T) [
      | inl says ↦ (let o = says.shown refl in shown_loads old.holds asked file bytes named held (form words) says.names o.0 is_form o.1 (sym o.2))
      | inr (inl fails) ↦ absurd (cc (fails.fault))
      | inr (inr (inl lacks)) ↦ absurd (cc (lacks.memory))
      | inr (inr (inr serves)) ↦ done_loads old new words (standard ∷ []) asked file bytes is_form named held serves
    ]

pub returns-clause-refused : goal.returns-clause-refused
returns-clause-refused c = λ old new words asked file bytes answers is_form alone named held.
    elim answers as (λ _. (x : Refusal) × IsRefusal bytes x) [
      | inl says ↦ (let o = says.shown refl in shown_refused old.holds asked file bytes named held alone (form words) says.names o.0 is_form o.1 (sym o.2))
      | inr (inl fails) ↦ absurd (cc (fails.fault))
      | inr (inr (inl lacks)) ↦ absurd (cc (lacks.memory))
      | inr (inr (inr serves)) ↦ absurd (alone_unserved true old new words (standard ∷ []) Refused asked is_form alone serves)
    ]

pub returns-clause-loads : goal.returns-clause-loads
returns-clause-loads c = λ old new words ends asked file bytes T answers is_form alone named held loads calm.
    ends_so old new words ends Done calm (λ names outcome shows. loads_done old.holds asked file bytes named held alone T loads (form words) names outcome is_form shows)
    (λ serves. absurd (alone_unserved true old new words (standard ∷ []) ends asked is_form alone serves)) answers

pub returns-clause-refuses : goal.returns-clause-refuses
returns-clause-refuses c = λ old new words ends asked file bytes x answers is_form named held is_refusal calm.
    ends_so old new words ends Refused calm (λ names outcome shows. refused_refused old.holds asked file bytes named held x is_refusal (form words) names outcome is_form shows)
    (refused_unserved old new words (standard ∷ []) ends Refused asked file bytes x is_form named held is_refusal calm) answers

pub returns-clause-generates : goal.returns-clause-generates
returns-clause-generates c = λ tells old new words ends seed size answers is_form calm.
    elim answers as (λ _. (ends ≡ Done) ⊎ (ends ≡ Memory)) [
      | inl says ↦ inl (run_done (form words) says.names ends seed size is_form says.may_end)
      | inr (inl fails) ↦ absurd (calm fails.rose)
      | inr (inr (inl lacks)) ↦ inr lacks.memory
      | inr (inr (inr serves)) ↦ absurd (run_unserved tells old new words (standard ∷ []) ends seed size is_form serves)
    ]
