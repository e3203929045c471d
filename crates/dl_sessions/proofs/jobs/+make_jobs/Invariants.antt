use Rattle.std.proofs.Common.{vec_len}
use Rattle.dl_sessions.proofs.jobs.+make_jobs.Given as goal

abbrev pub decreases-make_jobs : goal.decreases-make_jobs
decreases-make_jobs g l = vec_len l.streams
