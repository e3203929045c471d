-- What the gates of literals read of the definite family.
use Rattle.std.specs.Prelude.{◌≡◌, ℕ, ◌<◌, Bool, true, false, List, length, All, Any, slice_index_or}
use Rattle.dl_lit.specs.declared.literal.Literal.{Literal}
use Rattle.dl_lit.specs.declared.literal.Family.TheVariants.{Definite}
use Rattle.dl_theory.specs.Lists.{attackers}
use Rattle.dl_graph.specs.Numbers.{NetLists, literal_at}
use Rattle.dl_fill.specs.declared.basis.Basis.{Basis}
use Rattle.dl_fill.specs.declared.basis.Basis.TheVariants.{Prevailing, Failing, Sure, Unsure, Nothing}
use Rattle.dl_fill.specs.Before.{Before, tag_of, attack_fails, attack_holds}

-- what the gates of a kind read
abbrev pub basis_at : List Basis → ℕ → Basis
basis_at bases kind = slice_index_or bases kind Nothing

-- `has` tells which literals of the definite family are at hand, by the sign
module _ (N : NetLists) (b : Before) (has : Bool → Literal → Type 0) (q : ℕ) where
  -- its own plus tag, where it stands; else the minus tags of all that attack it
  pub record ReadsPrevailing : Type 0 where
    pub sure : b.marked (tag_of true Definite) q ≡ true → has true (literal_at N q)
    pub fails : b.marked (tag_of true Definite) q ≡ false → attack_fails N b.marked q ≡ true → All (has false) (attackers N.theory (literal_at N q))

  -- its own minus tag, and the plus tag of one that attacks it, where there is one
  pub record ReadsFailing : Type 0 where
    pub unsure : b.marked (tag_of false Definite) q ≡ true → has false (literal_at N q)
    pub holds : attack_holds N b.marked q ≡ true → Any (has true) (attackers N.theory (literal_at N q))

  -- its own plus tag, where it stands
  abbrev pub ReadsSure : Type 0
  ReadsSure = b.marked (tag_of true Definite) q ≡ true → has true (literal_at N q)

  -- its own minus tag, where it stands
  abbrev pub ReadsUnsure : Type 0
  ReadsUnsure = b.marked (tag_of false Definite) q ≡ true → has false (literal_at N q)

  abbrev pub ReadsBy : Basis → Type 0
  ReadsBy Prevailing = ReadsPrevailing
  ReadsBy Failing = ReadsFailing
  ReadsBy Sure = ReadsSure
  ReadsBy Unsure = ReadsUnsure
  ReadsBy Nothing = Unit {0}

  -- at a literal of the region
  abbrev pub Reads : Basis → Type 0
  Reads basis = q < length N.names → b.inside q ≡ true → ReadsBy basis
