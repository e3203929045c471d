-- How the fields of a superiority hold its pairs, and why a pair is not added.
use Rattle.std.specs.Prelude.{◌≡◌, ◌⊎◌, ℕ, ◌<◌, ◌≤◌, List, ◌++◌, Some, Result, MatchResult, All, Contains, length, map, take, slice_get}
use Rattle.dl_base.specs.Paths.{IsPath}
use Rattle.dl_sup.specs.declared.link.Link.{Link}
use Rattle.dl_sup.specs.declared.stop.LoadStop.{LoadStop}
use Rattle.dl_sup.specs.declared.stop.LoadStop.TheVariants as load_stop
use Rattle.dl_sup.specs.Links.{IsOver}
use Rattle.dl_sup.specs.Adding.{IsAddable, AreAddable}
use Rattle.dl_theory.specs.declared.rule.Pair.{Pair}
use Rattle.dl_theory.specs.declared.edit.EditRefusal.{EditRefusal}
use Rattle.dl_theory.specs.declared.edit.EditRefusal.TheVariants as edit_refusal
use Rattle.dl_theory.specs.declared.edit.PairsStop.{PairsStop}
use Rattle.dl_theory.specs.declared.edit.PairsStop.TheVariants as pairs_stop
use Rattle.dl_theory.specs.declared.superiority.PairStop.{PairStop}
use Rattle.dl_theory.specs.declared.superiority.PairStop.TheVariants.{Cycle, Full, Memory}
use Rattle.dl_theory.specs.Lists.{IsAbove}
use Rattle.dl_theory.specs.Pairs.{Closes, label_at}

-- why a pair of known labels that is not in the list is not added
abbrev pub IsPairStop : List Pair → Pair → PairStop → Type 0
IsPairStop pairs p (Cycle path) = IsPath (IsAbove pairs) p.lower p.upper path
IsPairStop pairs p Full = (¬ Closes pairs p) × (1000000 ≤ length pairs)
IsPairStop pairs p Memory = Unit {0}

-- the labels of a track of numbers from the lower one to the upper one
pub record IsNamedTrack (items : List (List ℕ)) (links : List Link) (l : Link) (path : List (List ℕ)) : Type 0 where
  pub track : List ℕ
  pub leads : IsPath (IsOver links) l.lower l.upper track
  pub named : path ≡ map (label_at items) track

-- why a pair of numbers is not added
abbrev pub IsLinkStop : List (List ℕ) → List Link → Link → PairStop → Type 0
IsLinkStop items links l (Cycle path) = IsNamedTrack items links l path
IsLinkStop items links l Full = ⊥
IsLinkStop items links l Memory = Unit {0}

-- the first cause of a refusal of a pair of numbers
abbrev pub IsLinkRefusal : List (List ℕ) → List Link → Link → EditRefusal → Type 0
IsLinkRefusal items links l edit_refusal.PairThere = Contains links l
IsLinkRefusal items links l (edit_refusal.Cycle path) = (¬ Contains links l) × IsNamedTrack items links l path
IsLinkRefusal items links l edit_refusal.PairsFull = IsAddable links l × (1000000 ≤ length links)
IsLinkRefusal items links l _ = ⊥

-- the pairs of numbers before a place were added, and the one at it is refused
pub record StopsAtLink (items : List (List ℕ)) (old new links : List Link) (at : ℕ) (refusal : EditRefusal) : Type 0 where
  pub refused : Link
  pub stands : slice_get links at ≡ Some refused
  pub front : AreAddable old (take at links)
  pub added : new ≡ old ++ take at links
  pub cause : IsLinkRefusal items new refused refusal

-- where the adding of several pairs of numbers stopped; want of memory leaves them as they were
abbrev pub IsLinksStop : List (List ℕ) → List Link → List Link → List Link → PairsStop → Type 0
IsLinksStop items old new links (pairs_stop.Refused at refusal) = StopsAtLink items old new links at refusal
IsLinksStop items old new links pairs_stop.Memory = new ≡ old

abbrev pub IsLinksOutcome : List (List ℕ) → List Link → List Link → List Link → Result (Unit {0}) PairsStop → Type 0
IsLinksOutcome items old new links result = MatchResult result (λ _. AreAddable old links × (new ≡ old ++ links)) (IsLinksStop items old new links)

-- the numbers of a track are those of labels
abbrev pub StopsWithin : List (List ℕ) → LoadStop → Type 0
StopsWithin items (load_stop.Cycle at track) = All (λ n. n < length items) track
StopsWithin items _ = Unit {0}

-- the same cause in labels, or want of memory
abbrev pub IsToldAs : List (List ℕ) → LoadStop → PairsStop → Type 0
IsToldAs items (load_stop.There at) told = told ≡ pairs_stop.Refused at edit_refusal.PairThere
IsToldAs items (load_stop.Cycle at track) told =
    (told ≡ pairs_stop.Refused at (edit_refusal.Cycle (map (label_at items) track))) ⊎ (told ≡ pairs_stop.Memory)
IsToldAs items load_stop.Memory told = told ≡ pairs_stop.Memory
