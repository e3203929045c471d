use Rattle.std.proofs.Common.{Bor, ap, ◌∙◌}
use Rattle.std.specs.Prelude.{IfOk, Result}
use Rattle.rayon.proofs.ListFacts.{AllZip-weaken}
use Rattle.rayon.proofs.ToStd.{slice-AllZip}
use Rattle.dl_base.specs.declared.memory.Memory.{Memory}
use Rattle.dl_conclusions.specs.declared.conclusion.Conclusion.{Conclusion}
use Rattle.dl_summary.specs.declared.families.Answers.{Answers}
use Rattle.dl_summary.specs.Answers.{IsAnswered}
use Rattle.dl_summary.proofs.Gathered.{all_gathered}
use Rattle.dl_gen.proofs.ask.answers_of.Goals as goal

pub returns : goal.returns
returns g c =
    let T = c.args.held.now.theory in
    let literals = c.args.literals.now in
    let collected = c.in_ok-collect.ensures in
    let chain = collected.1 in
    let slice = chain.1 ∙ ap (λ it. it.base.slice.now) c.map.ensures.base ∙ ap (λ it. it.slice.now) c.with_min_len.ensures.base ∙ c.par_iter.ensures in
    let each = AllZip-weaken _ (λ (z : Bor Conclusion) (r : Result Answers Memory). IfOk r (IsAnswered T z.now.literal)) (λ z r h. rw c.map.ensures.f at h) chain.0 collected.0 chain.2 in
    all_gathered T literals collected.0 c.in_ok-collect.field-0
    (slice-AllZip chain.0 literals slice (λ q r. IfOk r (IsAnswered T q.literal)) collected.0 each) collected.2
