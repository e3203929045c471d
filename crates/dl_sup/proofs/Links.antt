-- Pairs of numbers under fewer pairs.
use Rattle.std.proofs.lemmas.List.Kept.{AllPairs-filter}
use Rattle.std.proofs.Common.{◌≢◌, Bool, List}
use Rattle.std.specs.Prelude.{filter}
use Rattle.dl_sup.specs.declared.link.Link.{Link}
use Rattle.dl_sup.specs.Links.{IsOrder, IsOver, link}
use Rattle.dl_base.proofs.Members.{Contains-filtered}
use Rattle.dl_base.proofs.PathLemmas.{acyclic_fewer}

-- fewer pairs are still distinct and without cycles
pub IsOrder-filter : (p : Link → Bool) (pairs : List Link) → IsOrder pairs → IsOrder (filter p pairs)
IsOrder-filter p pairs h = record {
  distinct = AllPairs-filter (λ x y. x ≢ y) p pairs h.distinct;
  acyclic = acyclic_fewer (IsOver (filter p pairs)) (IsOver pairs) (λ x y c. Contains-filtered p pairs (link x y) c) h.acyclic;
}
