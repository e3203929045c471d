use Rattle.std.proofs.Common.{rules, ◌≡◌, [], refl, arith}
use Rattle.dl_sessions.specs.Ending.{MayJoin}
use Rattle.dl_sessions.specs.Served.{told}
use Rattle.dl_sessions.proofs.Closing.{serves_none, serves_last}
use Rattle.dl_sessions.proofs.Lists.{all_popped}
use Rattle.dl_sessions.proofs.join.+join_all.Goals as goal

pub join_all-sessions-requires-clause-done : goal.join_all-sessions-requires-clause-done
join_all-sessions-requires-clause-done g t c κs within =
    (all_popped (λ ended. MayJoin c.args.desk.now ended.seat) _ _ _ c.in-Some.ensures.items c.requires.done).0

pub join-requires-clause-belongs : goal.join-requires-clause-belongs
join-requires-clause-belongs g t c =
    let last = (all_popped (λ ended. MayJoin c.args.desk.now ended.seat) _ _ _ c.in-Some.ensures.items c.requires.done).1 in
    (c.join_all-sessions.ensures.base.place, last.place)

pub join-requires-clause-within : goal.join-requires-clause-within
join-requires-clause-within g t c =
    let last = (all_popped (λ ended. MayJoin c.args.desk.now ended.seat) _ _ _ c.in-Some.ensures.items c.requires.done).1 in
    (c.join_all-sessions.ensures.base.within, last.within)

pub returns-in_default-clause-served : goal.returns-in_default-clause-served
returns-in_default-clause-served g t c T streams all =
    let told = told g.I.Source.rest g.I.Source.faults g.I.Source.name g.P.Sink.written g.P.Sink.handed g.P.Sink.faults g.P.Sink.name in
    let none : c.args.done.items ≡ [] = search rules in
    serves_none c.args.desk.now T (λ s. told s.0 s.1) (λ s. told s.source s.sink) (λ s. s.end) (λ d. told d.source d.sink) (λ d. d.seat) (λ d. d.end)
    c.args.base.now streams c.args.done.items c.args.empty.items none c.requires.empty.0 all

pub returns-clause-served : goal.returns-clause-served
returns-clause-served g t c T streams all =
    let told = told g.I.Source.rest g.I.Source.faults g.I.Source.name g.P.Sink.written g.P.Sink.handed g.P.Sink.faults g.P.Sink.name in
    rw (c.push_reserved.ensures.items) (serves_last c.args.desk.now T (λ s. told s.0 s.1) (λ s. told s.source s.sink) (λ s. s.end) (λ d. told d.source d.sink) (λ d. d.seat) (λ d. d.end)
    c.join_all-sessions.new.base c.join.new.seat streams c.args.done.items c.pop.new.self.items c.in-Some.ended c.join_all-sessions.result.items _
    c.ends_stay.ensures c.in-Some.ensures.items all (c.join_all-sessions.ensures.served T) (omega (arith, c.join_all-sessions.ensures.count, c.join_all-sessions.result.ok, c.pop.new.self.ok)) c.join.ensures.both.0 c.join.ensures.both.1
    c.join.ensures.stays refl refl)
