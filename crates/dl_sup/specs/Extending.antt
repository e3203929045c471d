-- Where the adding of several pairs stopped.
use Rattle.std.specs.Prelude.{ℕ, Option, None, Some}
use Rattle.dl_sup.specs.declared.stop.LoadStop.{LoadStop}
use Rattle.dl_sup.specs.declared.stop.LoadStop.TheVariants as load_stop

abbrev pub place_of_stop : LoadStop → Option ℕ
place_of_stop (load_stop.There at) = Some at
place_of_stop (load_stop.Cycle at track) = Some at
place_of_stop load_stop.Memory = None
