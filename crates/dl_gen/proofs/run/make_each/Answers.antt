use Rattle.std.proofs.Common.{List, length, map-id, sym, subst, ◌∙◌, rules}
use Rattle.std.proofs.lemmas.Iterator.Consumers.{YieldsList-turn, YieldsList-end}
use Rattle.std.proofs.lemmas.Iterator.Adapters.{YieldsList-from_vec}
use Rattle.dl_calls.specs.declared.call.Call.{Call}
use Rattle.dl_gen.specs.Running.{IsChange, HasMade}
use Rattle.dl_gen.proofs.OneSeat.{none_made, more_made, may_still}
use Rattle.dl_gen.proofs.run.make_each.Goals as goal

pub loop-call-init : goal.loop-call-init
loop-call-init g c = none_made _ c.requires.may

pub make_call-requires-clause-belongs : goal.make_call-requires-clause-belongs
make_call-requires-clause-belongs g c = c.loop-call.invariant.place ∙ c.requires.belongs

pub make_call-requires-clause-may : goal.make_call-requires-clause-may
make_call-requires-clause-may g c = may_still _ _ _ c.requires.may c.loop-call.invariant

pub make_call-requires-clause-call : goal.make_call-requires-clause-call
make_call-requires-clause-call g c =
    let loop = c.loop-call in
    let road = YieldsList-from_vec {s = c.into_iter-call-iterator.result} c.args.calls.items (search rules) (search rules) in
    let turn = YieldsList-turn road loop.yielded loop.call-iterator loop.yielded_by c.next.result c.next.new.self c.in-Some.call c.in-Some.is c.next.ensures.steps in
    subst IsChange (sym turn.1) (c.requires.calls (length loop.yielded) c.in-Some.call turn.0)

pub loop-call-preserved : goal.loop-call-preserved
loop-call-preserved g c = more_made _ _ _ _ _ c.loop-call.invariant c.in_ok-make_call.ensures

pub returns : goal.returns
returns g c =
    let loop = c.loop-call in
    let road = YieldsList-from_vec {s = c.into_iter-call-iterator.result} c.args.calls.items (search rules) (search rules) in
    let end = YieldsList-end road loop.yielded loop.call-iterator loop.yielded_by c.next.result c.next.new.self c.in-None.is c.next.ensures.steps in
    subst (λ (l : List Call). HasMade c.args.seat.now loop.seat l) (sym (map-id loop.yielded) ∙ end.0) loop.invariant
