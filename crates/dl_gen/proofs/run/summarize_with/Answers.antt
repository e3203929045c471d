use Rattle.dl_gen.proofs.OneSeat.{generated_end, some_edition, last_edition, is_replay, is_summary}
use Rattle.dl_gen.proofs.run.summarize_with.Goals as goal

pub summary_of-requires-clause-replay : goal.summary_of-requires-clause-replay
summary_of-requires-clause-replay g c κs within =
    is_replay c.args.seed c.args.size c.in_ok-made.made.0 c.in_ok-made.made.1 c.in_ok-made.ensures.board c.in_ok-made.ensures.replay

pub summary_of-requires-clause-some : goal.summary_of-requires-clause-some
summary_of-requires-clause-some g c κs within = some_edition _ (generated_end _ c.args.seed c.args.size _ c.in_ok-made.ensures.board.calls)

pub summary_of-requires-clause-last : goal.summary_of-requires-clause-last
summary_of-requires-clause-last g c κs within = last_edition _ (generated_end _ c.args.seed c.args.size _ c.in_ok-made.ensures.board.calls)

pub returns : goal.returns
returns g c = is_summary c.args.seed c.args.size c.in_ok-made.made.0 c.in_ok-summary.summary c.in_ok-made.ensures.board c.in_ok-summary.ensures
