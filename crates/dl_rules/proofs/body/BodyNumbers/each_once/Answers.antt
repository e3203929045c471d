use Rattle.std.proofs.Common.{length, sym, ap, ◌∙◌, arith}
use Rattle.dl_rules.specs.KeptBody.{once_of, body_of}
use Rattle.dl_rules.proofs.OnceLemmas.{each_once_shorter}
use Rattle.dl_rules.proofs.body.BodyNumbers.each_once.Goals as goal

pub returns-in-Repeating-clause-few : goal.returns-in-Repeating-clause-few
returns-in-Repeating-clause-few c =
    omega (
      arith,
      ap length (c.as_slice-in-Repeating.ensures ∙ ap (λ r. r.once.items) c.deref.ensures ∙ sym (ap once_of c.in-Repeating.is) ∙ c.self.invariant.once),
      each_once_shorter (body_of c.self.inside.form),
      c.self.invariant.short,
    )
