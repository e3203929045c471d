use Rattle.std.proofs.Common.{vec_len}
use Rattle.dl_sessions.proofs.jobs.+streams_of.Given as goal

abbrev pub decreases-streams_of : goal.decreases-streams_of
decreases-streams_of g l = vec_len l.jobs
