-- Boards as callers see them.
use Rattle.std.specs.Prelude.{◌≡◌, ℕ, List, []}
use Rattle.dl_lit.specs.declared.literal.Literal.{Literal}
use Rattle.dl_theory.specs.Lists.{TheoryLists}
use Rattle.dl_calls.specs.declared.entry.Entry.{Entry}

-- the theory that the history begins from, the history, how many seats are enrolled, and the literals that the draft has numbered
pub record BoardLists : Type 0 where
  pub start : TheoryLists
  pub history : List Entry
  pub enrolled : ℕ
  pub names : List Literal

-- no entry and no seat
abbrev pub opening_board : TheoryLists → List Literal → BoardLists
opening_board T names = record { start = T; history = []; enrolled = 0; names = names }

-- start, history and seats are as before
pub record IsAsBefore (old new : BoardLists) : Type 0 where
  pub start : new.start ≡ old.start
  pub history : new.history ≡ old.history
  pub enrolled : new.enrolled ≡ old.enrolled
