-- How the columns of a list of rules hold it.
use Rattle.std.specs.Prelude.{◌≡◌, ℕ, ◌<◌, ◌&&◌, min, Bool, Option, None, Some, List, [], ◌∷◌, length, get_or}
use Rattle.dl_theory.specs.declared.rule.Kind.{Kind}
use Rattle.dl_theory.specs.declared.rule.Kind.TheVariants as kinds
use Rattle.dl_rules.specs.declared.slot.Slot.{Slot}
use Rattle.dl_rules.specs.declared.slot.Slot.TheVariants.{Strict, Defeasible, Defeater, Gone}
use Rattle.dl_rules.specs.declared.lines.Lines.TheInside.{Inside}
use Rattle.dl_pages.specs.Paged.{PagedItems}
use Rattle.dl_rules.specs.Lines.{Line}

-- the kind of the rule in a slot
abbrev pub kind_in : Slot → Option Kind
kind_in Strict = Some kinds.Strict
kind_in Defeasible = Some kinds.Defeasible
kind_in Defeater = Some kinds.Defeater
kind_in Gone = None

-- the rule of a kind with a head and a body
abbrev pub line_of : Option Kind → ℕ → List ℕ → Option Line
line_of None h b = None
line_of (Some k) h b = Some (record { kind = k; head = h; body = b })

-- the rules in these slots, with these heads and bodies
abbrev pub joined : List Slot → List ℕ → List (List ℕ) → List (Option Line)
joined [] heads bodies = []
joined (s ∷ slots) [] bodies = []
joined (s ∷ slots) (h ∷ heads) [] = []
joined (s ∷ slots) (h ∷ heads) (b ∷ bodies) = line_of (kind_in s) h b ∷ joined slots heads bodies

-- what holds of both at a place
abbrev pub both : List Bool → List Bool → List Bool
both [] ys = []
both (x ∷ xs) [] = []
both (x ∷ xs) (y ∷ ys) = (x && y) ∷ both xs ys

-- a rule may go where its kind and its body may be written
abbrev pub lines_of : Inside → PagedItems (Option Line)
lines_of a = record {
  items = joined a.slots.items a.heads.items a.bodies.items;
  owned = both a.slots.owned a.bodies.owned;
  spare = min a.slots.spare (min a.heads.spare a.bodies.spare);
}

-- no column is longer than another
pub record AreAsLong (ss : List Slot) (hs : List ℕ) (bs : List (List ℕ)) : Type 0 where
  pub heads : length hs ≡ length ss
  pub bodies : length bs ≡ length ss

-- a rule that has gone has left no body
abbrev pub AreBare : List Slot → List (List ℕ) → Type 0
AreBare ss bs = (n : ℕ) → n < length ss → get_or ss n Gone ≡ Gone → get_or bs n [] ≡ []

pub record IsKeptLines (a : Inside) : Type 0 where
  pub long : AreAsLong a.slots.items a.heads.items a.bodies.items
  pub bare : AreBare a.slots.items a.bodies.items
