use Rattle.std.proofs.Common.{List, inl, sym, subst}
use Rattle.dl_lit.specs.declared.literal.Tagged.{Tagged}
use Rattle.dl_theory.specs.declared.answer.Verdict.TheVariants.{Refuted}
use Rattle.dl_theory.specs.declared.answer.Certificate.TheVariants as certificate
use Rattle.dl_theory.specs.Listings.{Occurs}
use Rattle.dl_theory.specs.Verdicts.{Fits}
use Rattle.dl_derive.proofs.Absent.{refuted_fits}
use Rattle.dl_derive.proofs.unnumbered.unnumbered_answer.Goals as goal

pub returns : goal.returns
returns c =
    let absent : ¬ Occurs c.args.net.now.theory c.args.literal.now =
    λ o. c.requires (c.names-names.ensures.numbered.mentioned c.args.literal.now (inl o)) in
    subst
    (λ (steps : List Tagged). Fits c.args.net.now.theory c.args.family c.args.literal.now (record { verdict = Refuted; certificate = certificate.Derivation steps }))
    (sym c.in_ok-steps.ensures) (refuted_fits c.args.net.now.theory c.args.literal.now absent c.args.family)
