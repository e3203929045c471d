-- The rule of the turnstile: what its place holds and what all seats know fit one history.
use Rattle.std.specs.Prelude.{◌≡◌, ◌≢◌, ◌⊎◌, ℕ, ◌<◌, ◌≤◌, List, [], ◌∷◌, Some, None, IfSome, All, sum_by}
use mathlib.Core.Option.{some}
use lib.ListN.{get_elem?}
use Rattle.dl_turn.specs.History.{StartsWith, own_lines, HasLines, AllBelow}
use Rattle.dl_turn.specs.Steps.{fresh, claims}
use Rattle.dl_turn.specs.declared.view.PassView.{PassView}
use Rattle.dl_turn.specs.declared.view.Stage.TheVariants.{Fresh, Seated}

-- what a seat knows fits a board with this start, history and count
pub record Fits {L S : Type 0} (number : L → ℕ) (start : S) (history : List L) (count : ℕ) (v : PassView L S) : Type 0 where
  -- what the seat has seen is a beginning of the history, and so is what a joined seat had seen
  pub seen : StartsWith history v.seen
  pub also_seen : StartsWith history v.also_seen
  -- its lines are all that the history has of its number, and it has none without a number
  pub mine : v.mine ≡ own_lines number v.number history
  pub below : IfSome v.number (λ k. k < count)
  -- the same of each number that it joined
  pub olds : All (HasLines number history count) v.olds
  -- it has the board's start, unless a join has emptied it
  pub starts : v.stage ≡ Seated → v.start ≡ start
  -- the board was put into its place before
  pub begun : v.stage ≢ Fresh

module _ {B L S : Type 0} (start : B → S) (history : B → List L) (enrolled : B → ℕ) (number : L → ℕ) where
  -- the place holds the board, which has this start, history and count, and no seat is out
  abbrev pub IsHome : List B → List (PassView L S) → S → List L → ℕ → Type 0
  IsHome items views s h c = (b : B) × (items ≡ b ∷ []) × (start b ≡ s) × (history b ≡ h) × (enrolled b ≡ c) × ((i : ℕ) (v : PassView L S) → get_elem? views i ≡ some v → v.out ≡ None)

  -- the place is empty, and just one seat is out, with this history and count
  abbrev pub IsOut : List B → List (PassView L S) → List L → ℕ → Type 0
  IsOut items views h c =
      (items ≡ []) × ((p : ℕ) × (v : PassView L S) × (get_elem? views p ≡ some v) × (v.out ≡ Some (h, c)) × (v.stage ≡ Seated)
      × ((i : ℕ) (u : PassView L S) → i ≢ p → get_elem? views i ≡ some u → u.out ≡ None))

  -- the rule, from the opening on
  pub record IsKept (items : List B) (views : List (PassView L S)) : Type 0 where
    -- the start, history and count of the board, wherever it is
    pub s : S
    pub h : List L
    pub c : ℕ
    pub placed : IsHome items views s h c ⊎ IsOut items views h c
    pub fits : (i : ℕ) (v : PassView L S) → get_elem? views i ≡ some v → Fits number s h c v
    -- each number is that of one seat at most, or stands once among those that seats have joined
    pub apart : (k : ℕ) → sum_by (claims k) views ≤ 1
    pub below : AllBelow number c h

  -- before the opening the place is empty, and there is the fresh view alone
  abbrev pub Holds : S → List B → List (PassView L S) → Type 0
  Holds s items views = ((items ≡ []) × (views ≡ fresh s ∷ [])) ⊎ IsKept items views
