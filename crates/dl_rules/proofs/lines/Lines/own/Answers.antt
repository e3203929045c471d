use Rattle.std.proofs.lemmas.Result.{on_ok_weaker}
use Rattle.dl_rules.proofs.LineLemmas.{in_slots, in_bodies, both_made}
use Rattle.dl_rules.proofs.lines.Lines.own.Goals as goal

pub own-requires-clause-within : goal.own-requires-clause-within
own-requires-clause-within c = in_slots c.self.inside c.self.invariant c.args.self.now c.self.view_is c.args.rule c.requires

pub own-requires-2-clause-within : goal.own-requires-2-clause-within
own-requires-2-clause-within c = in_bodies c.self.inside c.self.invariant c.args.self.now c.self.view_is c.args.rule c.requires

pub returns-clause-own : goal.returns-clause-own
returns-clause-own c =
    on_ok_weaker c.own-2.result
    (λ here. both_made c.own.new.self.owned c.own-2.new.self.owned c.args.rule c.in_ok-own.ensures.here here)
    c.own-2.ensures.here
