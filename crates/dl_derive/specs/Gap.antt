-- What does not follow, of what matters for a literal.
use Rattle.std.specs.Prelude.{ℕ, Bool, true, false, cond, List, [], ◌∷◌, ◌++◌}
use Rattle.std.specs.List.{flat_map}
use Rattle.dl_lit.specs.declared.literal.Tagged.{Tagged}
use Rattle.dl_lit.specs.declared.literal.Tag.{Tag}
use Rattle.dl_lit.specs.declared.literal.Family.{Family}
use Rattle.dl_lit.specs.Literal.{tagged}
use Rattle.dl_theory.specs.Verdicts.{needs}
use Rattle.dl_graph.specs.Numbers.{NetLists, literal_at}
use Rattle.dl_fill.specs.Before.{tag_of}

module _ (N : NetLists) (marked : Tag → ℕ → Bool) where
  -- the tagged literal, where its mark does not stand
  abbrev pub open_tag : Family → Bool → ℕ → List Tagged
  open_tag f plus q = cond (marked (tag_of plus f) q) [] (tagged plus f (literal_at N q) ∷ [])

  abbrev pub open_family : ℕ → Family → List Tagged
  open_family q f = open_tag f true q ++ open_tag f false q

  -- of the families that matter for one
  abbrev pub open_number : Family → ℕ → List Tagged
  open_number f q = flat_map (open_family q) (needs f)

  abbrev pub open_members : Family → List ℕ → List Tagged
  open_members f numbers = flat_map (open_number f) numbers
