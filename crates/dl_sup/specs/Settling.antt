-- What is kept where the adding of several pairs stops.
use Rattle.std.specs.Prelude.{◌≡◌, ℕ, List}
use Rattle.dl_sup.specs.declared.link.Link.{Link}
use Rattle.dl_sup.specs.declared.stop.SupStop.{SupStop}
use Rattle.dl_sup.specs.declared.stop.SupStop.TheVariants as sup_stop
use Rattle.dl_sup.specs.declared.stop.LoadStop.{LoadStop}
use Rattle.dl_sup.specs.declared.stop.LoadStop.TheVariants as load_stop

-- what was added stays, unless memory was wanting
abbrev pub IsSettled : List Link → List Link → List Link → ℕ → LoadStop → SupStop → Type 0
IsSettled old fresh new at stop sup_stop.There = (new ≡ fresh) × (stop ≡ load_stop.There at)
IsSettled old fresh new at stop (sup_stop.Cycle track) = (new ≡ fresh) × (stop ≡ load_stop.Cycle at track)
IsSettled old fresh new at stop sup_stop.Memory = (new ≡ old) × (stop ≡ load_stop.Memory)
