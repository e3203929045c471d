-- Going back along a queue: what kept nodes still ask of the nodes before them.
use Rattle.std.specs.Prelude.{◌≡◌, ◌⊎◌, ℕ, ◌<◌, Bool, true, false, ◌||◌, List, [], ◌∷◌, ◌++◌, slice_set, slice_index_or}
use Rattle.std.specs.List.{fold}
use Rattle.dl_graph.specs.Counting.{times}
use Rattle.dl_fill.specs.declared.wire.Gate.{Gate}
use Rattle.dl_fill.specs.declared.wire.Gate.TheVariants.{Every, Either, Now, Never}
use Rattle.dl_fill.specs.declared.needs.Need.{Need}
use Rattle.dl_fill.specs.declared.needs.Need.TheVariants.{Nothing, Each, One}
use Rattle.dl_fill.specs.Passing.{Passing}

-- what each node asks, and whether one asked
pub record Asking : Type 0 where
  pub needs : List Need
  pub asked : Bool

abbrev pub need_at : List Need → ℕ → Need
need_at needs y = slice_index_or needs y Nothing

abbrev pub asks : Need → Bool
asks Nothing = false
asks Each = true
asks One = true

-- what a node asks once it was given one input
abbrev pub answered : Need → Need
answered Nothing = Nothing
answered Each = Each
answered One = Nothing

abbrev pub need_of : Gate → Need
need_of Every = Each
need_of Either = One
need_of Now = Nothing
need_of Never = Nothing

abbrev pub serve : Asking → ℕ → Asking
serve a y = record { needs = slice_set a.needs y (answered (need_at a.needs y)); asked = a.asked || asks (need_at a.needs y) }

-- after a look at the nodes that x leads to, x was kept and asks what its gate does; or none asked for it and it is not wanted
abbrev pub looked : (ℕ → List ℕ) → ℕ → List Need → Asking
looked edges x needs = fold serve (record { needs = needs; asked = false }) (edges x)

abbrev pub IsVisited : (ℕ → List ℕ) → (ℕ → Gate) → ℕ → Bool → List Need → List ℕ → List Need → List ℕ → Type 0
IsVisited edges gate x wanted needs kept needs' kept' =
    ((kept' ≡ kept ++ x ∷ []) × (needs' ≡ slice_set (looked edges x needs).needs x (need_of (gate x))))
    ⊎ (((looked edges x needs).asked ≡ false) × (wanted ≡ false) × (kept' ≡ kept) × (needs' ≡ (looked edges x needs).needs))

-- of nodes each of which is passed by nodes before it, those that are kept are, and the wanted ones are among them
pub record IsPruned (inputs : ℕ → List ℕ) (gate : ℕ → Gate) (nodes : List ℕ) (wanted : List Bool) (kept : List ℕ) : Type 0 where
  pub passing : Passing inputs gate [] kept
  pub within : (x : ℕ) → 0 < times x kept → 0 < times x nodes
  pub has : (x : ℕ) → 0 < times x nodes → slice_index_or wanted x false ≡ true → 0 < times x kept
  pub last : (before : List ℕ) (x : ℕ) → nodes ≡ before ++ x ∷ [] → slice_index_or wanted x false ≡ true
      → (front : List ℕ) × (kept ≡ front ++ x ∷ [])
