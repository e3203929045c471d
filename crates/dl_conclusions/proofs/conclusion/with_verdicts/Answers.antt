use Rattle.std.proofs.Common.{◌≡◌, ◌∙◌, ℕ, List, [], ◌∷◌, ◌++◌, get_or, map, take, ap, sym}
use Rattle.std.proofs.lemmas.List.{map-append, take_more}
use Rattle.dl_conclusions.specs.declared.conclusion.Conclusion.{Conclusion}
use Rattle.dl_conclusions.specs.Conclusions.{conclusion_at}
use Rattle.dl_conclusions.proofs.conclusion.with_verdicts.Goals as goal

pub loop-number-preserved : goal.loop-number-preserved
loop-number-preserved c =
    let f : ℕ → Conclusion = conclusion_at c.args.net.now c.args.marks.now c.args.family in
    let ns : List ℕ = c.args.numbers.now in
    let i : ℕ = c.loop-number.number-index in
    let n : ℕ = get_or ns i 0 in
    let x : Conclusion = record { literal = c.in_ok-literal.literal; verdict = c.marked_verdict-verdict.result } in
    let is : x ≡ f n = λ j. record { literal = (c.in_ok-literal.ensures ∙ c.literal.ensures) j; verdict = c.marked_verdict-verdict.ensures j } in
    record {
      listed = c.in_ok-push.ensures.items
          ∙ ap (λ (l : List Conclusion). l ++ x ∷ []) c.loop-number.invariant.listed
          ∙ ap (λ (y : Conclusion). map f (take i ns) ++ y ∷ []) is
          ∙ sym (map-append f (take i ns) (n ∷ []))
          ∙ ap (map f) (sym (take_more ns i 0 c.loop-number-test.true));
    }
