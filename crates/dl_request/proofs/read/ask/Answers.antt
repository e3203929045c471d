use Rattle.std.proofs.Common.{ℕ, List, refl, sym, ap, subst, ◌∙◌}
use Rattle.dl_read.specs.Grammar.{is_blank, begins_with, has_variables, IsLiteral}
use Rattle.dl_read.specs.Words.{past_word}
use Rattle.dl_read.proofs.Decided.{literals_are_decided}
use Rattle.dl_request.proofs.CutWords.{clash}
use Rattle.dl_request.proofs.FirstWords.{question_words, question_found}
use Rattle.dl_request.proofs.read.ask.Goals as goal

pub returns-in_default : goal.returns-in_default
returns-in_default c =
    let rest = c.args.rest.now in
    λ x b. c.in_default.ensures b.0 b.1 (past_word (past_word rest)) (question_words rest b.0 b.1 b.2 b.3).letters

pub returns-then-not-begins_blank : goal.returns-then-not-begins_blank
returns-then-not-begins_blank c =
    λ x b. clash c.begins_blank.result
    (c.begins_blank.ensures ∙ ap (begins_with is_blank) c.in-Some.ensures.2 ∙ (question_words c.args.rest.now b.0 b.1 b.2 b.3).spaced) c.if-not-begins_blank.true

pub returns-in-Ok : goal.returns-in-Ok
returns-in-Ok c =
    let k = c.in-Some in
    let q = c.in-Ok.literal in (
      k.edition,
      k.family,
      q,
      question_found c.args.rest.now k.edition k.family q k.behind.now
          (record { letters = k.ensures; spaced = sym c.begins_blank.ensures ∙ c.if-not-begins_blank.false; literal = c.in-Ok.ensures.1 }),
      refl,
    )

pub returns-in-Err-Bad : goal.returns-in-Err-Bad
returns-in-Err-Bad c =
    let e = rw c.in-Err-Bad.field-0-is at c.in-Err-Bad.ensures in
    λ x b. e.1 b.2 (subst (λ (r : List ℕ). IsLiteral r b.2) (sym c.in-Some.ensures.2) (question_words c.args.rest.now b.0 b.1 b.2 b.3).literal)

pub returns-in-Err-Variables : goal.returns-in-Err-Variables
returns-in-Err-Variables c =
    let e = rw c.in-Err-Variables.field-0-is at c.in-Err-Variables.ensures in
    let behind = c.in-Some.behind.now in
    λ x b. (
    let q = subst (λ (r : List ℕ). IsLiteral r b.2) (sym c.in-Some.ensures.2) (question_words c.args.rest.now b.0 b.1 b.2 b.3).literal in
    clash (has_variables behind) e (literals_are_decided.plain behind b.2 q))
