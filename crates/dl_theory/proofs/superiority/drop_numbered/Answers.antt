use Rattle.std.proofs.Common.{List, sym, subst}
use Rattle.std.specs.Prelude.{filter, not}
use Rattle.dl_sup.specs.declared.link.Link.{Link}
use Rattle.dl_theory.specs.declared.rule.Pair.{Pair}
use Rattle.dl_theory.specs.Pairs.{pair_eq, pair_eq-Decides, IsNumbered}
use Rattle.dl_theory.proofs.Numbers.{numbered_without, labels_of_pair, old_link, pair_there, without_absent}
use Rattle.dl_theory.proofs.superiority.drop_numbered.Goals as goal

pub returns-in-None-clause-found : goal.returns-in-None-clause-found
returns-in-None-clause-found c = (
  λ e. cc,
  λ m. absurd (c.in-None.ensures.absent
      (labels_of_pair c.args.items.now.keys c.args.order.now c.args.pairs.now.items c.requires.numbered c.args.pair.now.upper c.args.pair.now.lower m)),
)

pub returns-in-None-clause-dropped : goal.returns-in-None-clause-dropped
returns-in-None-clause-dropped c =
    sym (without_absent pair_eq pair_eq-Decides c.args.pairs.now.items c.args.pair.now
    (λ m. c.in-None.ensures.absent
    (labels_of_pair c.args.items.now.keys c.args.order.now c.args.pairs.now.items c.requires.numbered c.args.pair.now.upper c.args.pair.now.lower m)))

pub returns-in-Err-clause-found : goal.returns-in-Err-clause-found
returns-in-Err-clause-found c = (
  λ e. cc,
  λ m. absurd (c.in-Err.ensures.absent
      (old_link c.args.items.now.keys c.args.order.now c.args.pairs.now.items c.requires.numbered c.in-Some.link c.args.pair.now c.in-Some.ensures.number m)),
)

pub returns-in-Err-clause-dropped : goal.returns-in-Err-clause-dropped
returns-in-Err-clause-dropped c =
    sym (without_absent pair_eq pair_eq-Decides c.args.pairs.now.items c.args.pair.now
    (λ m. c.in-Err.ensures.absent
    (old_link c.args.items.now.keys c.args.order.now c.args.pairs.now.items c.requires.numbered c.in-Some.link c.args.pair.now c.in-Some.ensures.number m)))

pub returns-in-Ok-clause-numbered : goal.returns-in-Ok-clause-numbered
returns-in-Ok-clause-numbered c =
    subst (λ (ps : List Pair). IsNumbered c.args.items.now.keys c.drop_pair.new.self ps) (sym c.remove_pair.ensures)
    (subst (λ (ls : List Link). IsNumbered c.args.items.now.keys ls (filter (λ q. not (pair_eq q c.args.pair.now)) c.args.pairs.now.items)) (sym c.in-Ok.ensures.dropped)
    (numbered_without c.args.items.now.keys c.args.order.now c.args.pairs.now.items c.requires.numbered c.args.pair.now c.in-Some.link c.in-Some.ensures.number))

pub returns-in-Ok-clause-found : goal.returns-in-Ok-clause-found
returns-in-Ok-clause-found c = (
  λ e.
      pair_there c.args.items.now.keys c.args.order.now c.args.pairs.now.items c.requires.numbered c.in-Some.link c.args.pair.now c.in-Some.ensures.number
      c.in-Ok.ensures.there,
  λ m. cc,
)
