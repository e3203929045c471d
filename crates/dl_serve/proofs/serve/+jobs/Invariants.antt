use Rattle.std.proofs.Common.{◌+◌, ◌*◌, vec_len}
use Rattle.dl_serve.proofs.serve.+jobs.Given as goal

-- two for each job that is left, since the closure between two calls counts as well
abbrev pub decreases-join+arg3 : goal.decreases-join+arg3
decreases-join+arg3 g l = 2 * vec_len l.jobs + 1

abbrev pub decreases-serve_from : goal.decreases-serve_from
decreases-serve_from g l = 2 * vec_len l.jobs
