-- When a pair may be added to an order, and why not.
use Rattle.std.specs.Prelude.{◌≡◌, ℕ, List, [], ◌∷◌, ◌++◌, take, slice_get, Some}
use Rattle.dl_base.specs.Paths.{IsPath}
use Rattle.dl_sup.specs.declared.link.Link.{Link}
use Rattle.dl_sup.specs.declared.stop.SupStop.{SupStop}
use Rattle.dl_sup.specs.declared.stop.SupStop.TheVariants as sup_stop
use Rattle.dl_sup.specs.declared.stop.LoadStop.{LoadStop}
use Rattle.dl_sup.specs.declared.stop.LoadStop.TheVariants as load_stop
use Rattle.dl_sup.specs.Links.{IsOver}

-- a path leads from the lower item to the upper one, or they are one item
abbrev pub ClosesCycle : List Link → Link → Type 0
ClosesCycle pairs p = (track : List ℕ) × IsPath (IsOver pairs) p.lower p.upper track

abbrev pub IsAddable : List Link → Link → Type 0
IsAddable pairs p = (¬ IsOver pairs p.upper p.lower) × (¬ ClosesCycle pairs p)

-- each may be added after those before it
abbrev pub AreAddable : List Link → List Link → Type 0
AreAddable pairs [] = Unit {0}
AreAddable pairs (p ∷ more) = IsAddable pairs p × AreAddable (pairs ++ p ∷ []) more

-- the first cause of a refusal, or want of memory
abbrev pub IsSupStop : List Link → Link → SupStop → Type 0
IsSupStop pairs p sup_stop.There = IsOver pairs p.upper p.lower
IsSupStop pairs p (sup_stop.Cycle track) = (¬ IsOver pairs p.upper p.lower) × IsPath (IsOver pairs) p.lower p.upper track
IsSupStop pairs p sup_stop.Memory = Unit {0}

-- the pairs before a place were added, and the one at it is refused
pub record StopsAt (old new links : List Link) (at : ℕ) (stop : SupStop) : Type 0 where
  pub refused : Link
  pub stands : slice_get links at ≡ Some refused
  pub front : AreAddable old (take at links)
  pub added : new ≡ old ++ take at links
  pub cause : IsSupStop new refused stop

-- where the adding of several pairs stopped; want of memory leaves the order as it was
abbrev pub IsLoadStop : List Link → List Link → List Link → LoadStop → Type 0
IsLoadStop old new links (load_stop.There at) = StopsAt old new links at sup_stop.There
IsLoadStop old new links (load_stop.Cycle at track) = StopsAt old new links at (sup_stop.Cycle track)
IsLoadStop old new links load_stop.Memory = new ≡ old
