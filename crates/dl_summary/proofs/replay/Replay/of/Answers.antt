use Rattle.std.proofs.Common.{List, map-id, sym, subst, refl, ◌∙◌, rules, arith}
use Rattle.std.proofs.lemmas.Iterator.Consumers.{YieldsList-turn, YieldsList-end}
use Rattle.std.proofs.lemmas.Iterator.Adapters.{YieldsList-from_vec}
use Rattle.dl_calls.specs.declared.call.Call.{Call}
use Rattle.dl_summary.specs.Replaying.{Replays}
use Rattle.dl_summary.proofs.Replayed.{replays_none, replays_more, few_more}
use Rattle.dl_summary.proofs.replay.Replay.of.Goals as goal

pub loop-call-init : goal.loop-call-init
loop-call-init c = record { few = omega arith; replays = replays_none c.args.theory _ refl refl refl }

pub take-requires-clause-accepted : goal.take-requires-clause-accepted
take-requires-clause-accepted c =
    let loop = c.loop-call in
    let road = YieldsList-from_vec {s = c.into_iter-call-iterator.result} c.args.calls.items (search rules) (search rules) in
    let turn = YieldsList-turn road loop.yielded loop.call-iterator loop.yielded_by c.next.result c.next.new.self c.in-Some.call c.in-Some.is c.next.ensures.steps in
    omega (arith, loop.invariant.few, turn.0, c.args.calls.ok.0)

pub take-requires-clause-refused : goal.take-requires-clause-refused
take-requires-clause-refused c =
    let loop = c.loop-call in
    let road = YieldsList-from_vec {s = c.into_iter-call-iterator.result} c.args.calls.items (search rules) (search rules) in
    let turn = YieldsList-turn road loop.yielded loop.call-iterator loop.yielded_by c.next.result c.next.new.self c.in-Some.call c.in-Some.is c.next.ensures.steps in
    omega (arith, loop.invariant.few, turn.0, c.args.calls.ok.0)

pub loop-call-preserved : goal.loop-call-preserved
loop-call-preserved c = record {
  few = few_more _ _ c.in-Some.call c.loop-call.yielded c.in_ok-take.ensures c.loop-call.invariant.few;
  replays = replays_more _ c.loop-call.yielded c.in-Some.call _ _ c.loop-call.invariant.replays c.in_ok-take.ensures;
}

pub returns : goal.returns
returns c =
    let loop = c.loop-call in
    let road = YieldsList-from_vec {s = c.into_iter-call-iterator.result} c.args.calls.items (search rules) (search rules) in
    let end = YieldsList-end road loop.yielded loop.call-iterator loop.yielded_by c.next.result c.next.new.self c.in-None.is c.next.ensures.steps in
    subst (λ (l : List Call). Replays c.args.theory l loop.replay) (sym (map-id loop.yielded) ∙ end.0) loop.invariant.replays
