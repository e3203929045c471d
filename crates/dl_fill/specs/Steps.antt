-- Nodes read as tagged literals.
use Rattle.std.specs.Prelude.{ℕ, ◌/◌, ◌%◌, Bool, cond, Option, None, Some, List, [], ◌∷◌, slice_index_or}
use Rattle.std.specs.List.{flat_map}
use Rattle.dl_lit.specs.declared.literal.Literal.{Literal}
use Rattle.dl_lit.specs.declared.literal.Tagged.{Tagged}
use Rattle.dl_lit.specs.declared.literal.Tag.{Tag}
use Rattle.dl_lit.specs.Literal.{tagged}
use Rattle.dl_graph.specs.Numbers.{NetLists, literal_at}

-- the tag that nodes of a kind stand for, if they stand for one
abbrev pub tag_at : List (Option Tag) → ℕ → Option Tag
tag_at tags kind = slice_index_or tags kind None

abbrev pub with_tag : Option Tag → Literal → List Tagged
with_tag None q = []
with_tag (Some tag) q = tagged tag.plus tag.family q ∷ []

-- a node of a literal inside, read as a tagged literal
abbrev pub step_of : NetLists → ℕ → List (Option Tag) → (ℕ → Bool) → ℕ → List Tagged
step_of N width tags inside y = cond (inside (y / width)) (with_tag (tag_at tags (y % width)) (literal_at N (y / width))) []

abbrev pub steps_of : NetLists → ℕ → List (Option Tag) → (ℕ → Bool) → List ℕ → List Tagged
steps_of N width tags inside nodes = flat_map (step_of N width tags inside) nodes
