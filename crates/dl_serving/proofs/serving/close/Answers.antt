use Rattle.std.proofs.Common.{◌∙◌, List, map, subst, ap}
use Rattle.dl_session.specs.declared.end.End.{End}
use Rattle.dl_sessions.specs.declared.session.Session.{Session}
use Rattle.dl_journal.specs.Journal.{served_text}
use Rattle.dl_serving.specs.Serve.{ends_status}
use Rattle.dl_serving.specs.Serving.{PrintsTo}
use Rattle.dl_serving.proofs.serving.close.Goals as goal

pub returns-clause-printed : goal.returns-clause-printed
returns-clause-printed g c =
    let sink = c.conclude-status.new.sink in
    let ends = c.as_slice-2.ensures.value ∙ c.note_ends.ensures
    ∙ ap (λ (l : List (Session g.row.H-In.Denot g.row.H-Out.Denot)). map (λ s. s.end) l) c.as_slice.ensures.value in
    subst (λ (l : List End). PrintsTo g.H.House.tells (g.H.Out.Sink.handed sink) (g.H.Out.Sink.faults sink) (served_text c.args.served.board.history l) (ends_status l) c.conclude-status.result) ends
    (c.conclude-status.ensures.printed g.H.House.tells c.requires.new.nothing c.requires.new.no_faults)
