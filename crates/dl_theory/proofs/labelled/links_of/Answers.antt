use Rattle.std.proofs.Common.{◌≡◌, None, Option, length, sym, subst, ◌∙◌, arith}
use Rattle.std.proofs.lemmas.List.{take_all}
use Rattle.dl_theory.specs.declared.edit.EditRefusal.{EditRefusal}
use Rattle.dl_theory.specs.Edits.{IsFront}
use Rattle.dl_theory.proofs.Additions.{none_missing}
use Rattle.dl_theory.proofs.labelled.links_of.Goals as goal

pub returns-clause-named : goal.returns-clause-named
returns-clause-named c =
    let front =
    subst (λ (missing : Option EditRefusal). IsFront c.args.labels.now.keys c.args.pairs.now (length c.in_ok-links.links.items) missing)
    c.in-None.is c.in_ok-links.ensures.front in
    sym (c.in_ok-links.ensures.named ∙ take_all (length c.in_ok-links.links.items) c.args.pairs.now (omega (arith, front.1)))

pub unreachable-requires : goal.unreachable-requires
unreachable-requires c =
    let none : c.in_ok-links.missing ≡ None =
    none_missing c.args.labels.now.keys c.args.pairs.now (length c.in_ok-links.links.items) c.in_ok-links.missing c.requires c.in_ok-links.ensures.front in
    cc (none, c.in-Some.is)
