-- The nodes of a family: of a kind below a width, at a place. A wire leads from the nodes of one kind to those of another.
use Rattle.std.specs.Prelude.{◌≡◌, true, ℕ, ◌+◌, ◌*◌, ◌/◌, ◌%◌, ◌<◌, ◌==◌, Bool, cond, List, [], ◌∷◌, ◌++◌, map, filter}
use Rattle.std.specs.List.{flat_map}
use Rattle.dl_graph.specs.Numbers.{NetLists, next, back}
use Rattle.dl_graph.specs.declared.link.Link.{Link}
use Rattle.dl_graph.specs.declared.link.Link.TheVariants.{Same, Uses, Backs, Proves, Opposes, Defends, Counters}
use Rattle.dl_fill.specs.declared.wire.Wire.{Wire}

-- the nodes of a kind at places
abbrev pub through : ℕ → ℕ → List ℕ → List ℕ
through width kind places = map (λ i. i * width + kind) places

abbrev pub edges_by : NetLists → ℕ → ℕ → Wire → List ℕ
edges_by N width x w = cond (w.from == x % width) (through width w.to (next N w.link (x / width))) []

-- the nodes to which x leads
abbrev pub edges : NetLists → ℕ → List Wire → ℕ → List ℕ
edges N width wires x = flat_map (edges_by N width x) wires

-- from where a link comes that is not decided outside: of a body the literals inside alone
abbrev pub inner : NetLists → (ℕ → Bool) → Link → ℕ → List ℕ
inner N inside Same x = back N Same x
inner N inside Uses r = filter inside (back N Uses r)
inner N inside Backs x = back N Backs x
inner N inside Proves x = back N Proves x
inner N inside Opposes x = back N Opposes x
inner N inside Defends x = back N Defends x
inner N inside Counters x = back N Counters x

abbrev pub inputs_by : NetLists → (ℕ → Bool) → ℕ → ℕ → ℕ → Wire → List ℕ
inputs_by N inside width kind place w = cond (w.to == kind) (through width w.from (inner N inside w.link place)) []

-- the nodes that lead to a node of that kind at that place
abbrev pub inputs_at : NetLists → (ℕ → Bool) → ℕ → List Wire → ℕ → ℕ → List ℕ
inputs_at N inside width [] kind place = []
inputs_at N inside width (w ∷ ws) kind place = inputs_by N inside width kind place w ++ inputs_at N inside width ws kind place

abbrev pub inputs : NetLists → (ℕ → Bool) → ℕ → List Wire → ℕ → List ℕ
inputs N inside width wires y = inputs_at N inside width wires (y % width) (y / width)

-- each kind that the wires name is below the width
abbrev pub AreKinds : ℕ → List Wire → Type 0
AreKinds width [] = Unit {0}
AreKinds width (w ∷ ws) = (w.from < width) × (w.to < width) × AreKinds width ws

-- a node is inside where it leads to bodies
abbrev pub IsLive : (ℕ → Bool) → ℕ → List Wire → ℕ → Type 0
IsLive inside width [] x = Unit {0}
IsLive inside width (w ∷ ws) x = (w.link ≡ Uses → w.from ≡ x % width → inside (x / width) ≡ true) × IsLive inside width ws x
