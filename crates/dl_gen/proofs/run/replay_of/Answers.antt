use Rattle.std.proofs.Common.{subst}
use Rattle.dl_draw.specs.Generator.{generated_calls}
use Rattle.dl_summary.specs.Replaying.{Replays}
use Rattle.dl_gen.proofs.run.replay_of.Goals as goal

pub returns : goal.returns
returns c =
    let replay = c.in_ok-replay.replay in
    let same_calls = subst (λ calls. Replays c.in_ok-theory.theory calls replay) c.in_ok-calls.ensures.calls c.in_ok-replay.ensures in
    subst (λ T. Replays T (generated_calls c.args.seed c.args.size) replay) c.in_ok-theory.ensures.theory same_calls
