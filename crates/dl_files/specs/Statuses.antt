-- The exit statuses.
use Rattle.std.specs.Prelude.{ℕ}
use Rattle.dl_files.specs.declared.status.Status.{Status}
use Rattle.dl_files.specs.declared.status.Status.TheVariants.{Done, Refused, Usage, Memory, Fault, Rejected, Spent}

abbrev pub status_code : Status → ℕ
status_code Done = 0
status_code Refused = 1
status_code Usage = 2
status_code Memory = 3
status_code Fault = 4
status_code Rejected = 5
status_code Spent = 6
