use Rattle.std.proofs.Common.{◌≡◌, drop}
use Rattle.dl_serving.specs.Serve.{ends_status}
use Rattle.dl_serving.proofs.sessions.status_after.Given as goal

abbrev pub invariant-loop-end : goal.invariant-loop-end
invariant-loop-end l = ends_status (drop l.end-index l.ends) ≡ ends_status l.ends
