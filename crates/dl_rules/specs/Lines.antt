-- Rules by number, and the lists that lead to them.
use Rattle.std.specs.Prelude.{◌≡◌, ℕ, ◌<◌, ◌≤◌, Bool, cond, Option, None, Some, IsSome, unwrap_or, List, [], ◌∷◌, All, get_or}
use Rattle.dl_theory.specs.declared.rule.Kind.{Kind}
use Rattle.dl_theory.specs.declared.rule.Kind.TheVariants.{Defeater}
use Rattle.dl_theory.specs.Lists.{is_strict, can_support}
use Rattle.dl_rows.specs.Counting.{each_once}
use Rattle.dl_rows.specs.Listed.{Listed}

-- a rule by the numbers of its literals
pub record Line : Type 0 where
  pub kind : Kind
  pub head : ℕ
  pub body : List ℕ

-- whether a rule is strict, or else whether it can support its head
abbrev pub passes : Bool → Kind → Bool
passes strict k = cond strict (is_strict k) (can_support k)

-- ---- what is found at a number: a rule, or none where it has gone

abbrev pub kind_row : Bool → Option Line → List ℕ
kind_row strict None = []
kind_row strict (Some l) = cond (passes strict l.kind) (l.head ∷ []) []

abbrev pub heads_row : Option Line → List ℕ
heads_row None = []
heads_row (Some l) = l.head ∷ []

abbrev pub uses_row : Option Line → List ℕ
uses_row None = []
uses_row (Some l) = each_once l.body

-- a number below the end may be empty, and none past it has a rule
abbrev pub IsThere : List (Option Line) → ℕ → Type 0
IsThere lines s = IsSome (get_or lines s None)

abbrev pub no_line : Line
no_line = record { kind = Defeater; head = 0; body = [] }

-- the rule with a number; where there is none, a defeater without a body
abbrev pub line_at : List (Option Line) → ℕ → Line
line_at lines s = unwrap_or (get_or lines s None) no_line

-- the numbers of two rules, one above the other
pub record Meeting : Type 0 where
  pub upper : ℕ
  pub lower : ℕ

-- by number: the rules, and none where one has gone; the numbers of those below each, and of those above it; for how many literals
-- there are lists; the rule or the two rules for which there is memory; the number of the rule that can go; and the rules one of which can
-- stop to stand below the other
pub record IndexLists : Type 0 where
  pub lines : List (Option Line)
  pub lowers : List (List ℕ)
  pub uppers : List (List ℕ)
  pub width : ℕ
  pub ready : Option Line
  pub linking : Option Meeting
  pub taking : Option ℕ
  pub unlinking : Option Meeting

abbrev pub no_index : IndexLists
no_index = record { lines = []; lowers = []; uppers = []; width = 0; ready = None; linking = None; taking = None; unlinking = None }

-- the rules stay, and no list of literals goes
pub record KeepsRules (old new : IndexLists) : Type 0 where
  pub lines : new.lines ≡ old.lines
  pub lowers : new.lowers ≡ old.lowers
  pub uppers : new.uppers ≡ old.uppers
  pub wider : old.width ≤ new.width

-- the numbers are below the width
abbrev pub IsWithin : ℕ → Line → Type 0
IsWithin width l = (l.head < width) × All (λ b. b < width) l.body

-- a rule is there, and its numbers are below the width
abbrev pub IsThereWithin : ℕ → Option Line → Type 0
IsThereWithin width o = IsSome o × IsWithin width (unwrap_or o no_line)

-- the list that is there, or else the other
abbrev pub once_or : Option (Listed ℕ) → List ℕ → List ℕ
once_or None body = body
once_or (Some once) body = once.items
