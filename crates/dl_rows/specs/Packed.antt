-- Lists of numbers that stand one behind another.
use Rattle.std.specs.Prelude.{ℕ, ◌+◌, ◌<◌, ◌≤◌, List, take, drop, get_or, length}
use Rattle.dl_rows.specs.declared.packed_rows.Span.{Span}

-- what no list takes up
abbrev pub no_span : Span
no_span = record { start = 0; len = 0 }

-- the numbers of a list among all
abbrev pub in_span : List ℕ → Span → List ℕ
in_span items s = take s.len (drop s.start items)

abbrev pub span_at : List Span → ℕ → Span
span_at spans n = get_or spans n no_span

-- where the room of a list ends, of so much room for all
abbrev pub room_end : List Span → ℕ → ℕ → ℕ
room_end spans n all = (get_or spans (n + 1) (record { start = all; len = 0 })).start

-- each list ends before the next ones begin, and within the room for all
pub record ArePacked (spans : List Span) (all : ℕ) : Type 0 where
  pub rising : (i j : ℕ) → i < j → j < length spans → (span_at spans i).start + (span_at spans i).len ≤ (span_at spans j).start
  pub within : (i : ℕ) → (span_at spans i).start + (span_at spans i).len ≤ all
