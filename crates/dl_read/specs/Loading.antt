-- How a loader holds what the lines so far say.
use Rattle.std.specs.Prelude.{◌≡◌, ℕ, List, [], ◌∷◌, Option, Some, None, Result, Ok, Err}
use Rattle.dl_theory.specs.declared.edit.Edit.TheVariants.{AddPair}
use Rattle.dl_theory.specs.declared.edit.EditStop.{EditStop}
use Rattle.dl_theory.specs.declared.edit.EditStop.TheVariants as edit_stop
use Rattle.dl_theory.specs.declared.rule.Pair as pair
use Rattle.dl_theory.specs.Lists.{TheoryLists}
use Rattle.dl_read.specs.declared.loader.Refused.{Refused}
use Rattle.dl_read.specs.declared.loader.Loader.{Loader}
use Rattle.dl_read.specs.declared.statement.Statement.{Statement}
use Rattle.dl_read.specs.Files.{Placed, AreMade, IsFirstRefusal, facts_and_rules, pairs}

-- the refusal of the edit of a line is noted, where the answer is one
abbrev pub IsNoted : Result (Unit {0}) EditStop → ℕ → Option Refused → Option Refused → Type 0
IsNoted (Ok _) line old new = new ≡ old
IsNoted (Err (edit_stop.Refused refusal)) line old new = new ≡ Some (record { line = line; refusal = refusal })
IsNoted (Err edit_stop.Memory) line old new = ⊥

-- These edits were taken: all were made, or one of them is the first refused.
abbrev pub HasTaken : Option Refused → TheoryLists → List Placed → Type 0
HasTaken None T ps = AreMade ps T
HasTaken (Some r) T ps = IsFirstRefusal ps r.line r.refusal

-- these pairs, of these lines, wait
abbrev pub Waits : List Placed → List pair.Pair → List ℕ → Type 0
Waits [] [] [] = Unit {0}
Waits (p ∷ ps) (q ∷ qs) (k ∷ ks) = (p.edit ≡ AddPair q) × (p.line ≡ k) × Waits ps qs ks
Waits _ _ _ = ⊥

-- what a loader holds
pub record Held : Type 0 where
  pub refused : Option Refused
  pub lists : TheoryLists
  pub pairs : List pair.Pair
  pub lines : List ℕ

-- where its target holds these lists
abbrev pub held : {T : Type 0} → (T → TheoryLists) → Loader T → Held
held lists l = record { refused = l.refused; lists = lists l.target; pairs = l.pairs.items; lines = l.lines.items }

-- the loader has taken what these statements say
pub record HasRead (l : Held) (ss : List Statement) : Type 0 where
  pub taken : HasTaken l.refused l.lists (facts_and_rules 1 ss)
  pub waiting : Waits (pairs 1 ss) l.pairs l.lines
