use Rattle.std.proofs.Common.{◌≡◌, ◌∙◌, ℕ, List, Option, true, inr, refl, sym, ap, subst}
use Rattle.std.specs.Io.KnownBytes.{append_known}
use Rattle.std.specs.Prelude.{Result}
use Rattle.dl_io.specs.Outside.{Rose}
use Rattle.dl_io.specs.Streams.{IsKnownFront}
use Rattle.dl_journal.specs.Streams.{begun}
use Rattle.dl_replies.specs.declared.reply.Reply.{Reply}
use Rattle.dl_files.specs.declared.status.Status.TheVariants.{Fault}
use Rattle.dl_files.specs.declared.whole.Stop.{Stop}
use Rattle.ddl.specs.Answering.{SaysTo}
use Rattle.dl_files.proofs.Fronts.{handed_front}
use Rattle.ddl.proofs.program.answer.Goals as goal

pub returns-in-Err-clause-said : goal.returns-in-Err-clause-said
returns-in-Err-clause-said g c = λ tells written handed none.
    let sink = c.say.new.sink in
    let cut = c.in-Err.ensures.bytes in
    let begins = λ (is : tells ≡ true). cut.2 ∙ ap (λ (w : Option (List ℕ)). append_known w cut.0) (written ∙ ap begun is) in
    let front = λ (is : tells ≡ true). handed_front (g.S.Sink.handed sink) cut.0 _ (subst (λ (w : Option (List ℕ)). IsKnownFront (g.S.Sink.handed sink) w) (begins is) c.in-Err.ensures.handed) cut.1 in
    subst (λ (r : Result Reply Stop). SaysTo tells (g.S.Sink.handed sink) (g.S.Sink.faults sink) r Fault) (sym c.in-Ok.is)
    (inr (subst (λ (n : ℕ). Rose n (g.S.Sink.faults sink)) none c.in-Err.ensures.cause, (λ is. ((front is).0, (front is).2, (front is).1)), refl))
