use Rattle.std.proofs.Common.{◌∙◌, ap, sym}
use Rattle.crossbeam_queue.specs.Passes.{view}
use Rattle.dl_turn.proofs.Compare.{compares, joined_begins}
use Rattle.dl_turn.proofs.Join.{merges}
use Rattle.dl_turn.proofs.turnstile.Turnstile.join.Goals as goal

pub absorb-requires-clause-rule : goal.absorb-requires-clause-rule
absorb-requires-clause-rule g c =
    merges _ _ _ _ _ _ _ _ _ c.seat.invariant.seated c.other.invariant.seated (ap (λ s. s.out) c.seat.view_is ∙ c.requires.within.0) (ap (λ s. s.out) c.other.view_is ∙ c.requires.within.1)

pub returns-clause-both : goal.returns-clause-both
returns-clause-both g c =
    let a = joined_begins (view c.seat.inside.pass) (view c.other.inside.pass) (view c.absorb.new.pass) c.absorb.ensures.rule c.learn_as.ensures.rule.1 in
    rw (ap (λ v. v.seen) c.learn_as.ensures.queue.1, sym (ap (λ s. s.seen) c.seat.view_is), sym (ap (λ s. s.seen) c.other.view_is)) a

pub learn_as-requires-clause-rule : goal.learn_as-requires-clause-rule
learn_as-requires-clause-rule g c = compares _ _ _ _ _ _ _ (ap (λ v. v.stage) c.absorb.ensures.rule ∙ c.seat.invariant.seated)
