-- How each step at the turnstile changes what a seat's pass knows.
use Rattle.std.specs.Prelude.{ℕ, ◌+◌, ◌==◌, List, [], ◌++◌, length, drop, nat_le, sum_by, Option, Some, None, if◌then◌else◌}
use Rattle.dl_turn.specs.Views.{with_own}
use Rattle.dl_turn.specs.declared.view.PassView.{PassView}
use Rattle.dl_turn.specs.declared.view.Stage.TheVariants.{Fresh, Seated, Emptied}

-- 1 where the numbers are equal
abbrev pub is_at : ℕ → ℕ → ℕ
is_at k j = if j == k then 1 else 0

abbrev pub is_at_some : ℕ → Option ℕ → ℕ
is_at_some k None = 0
is_at_some k (Some j) = is_at k j

module _ {L : Type 0} where
  -- the lines that a history has beyond the one that was taken
  abbrev pub lines_beyond : Option (List L × ℕ) → List L → List L
  lines_beyond None history = []
  lines_beyond (Some b) history = drop (length b.0) history

  -- the seat's number after a board with this count was given
  abbrev pub number_after : Option (List L × ℕ) → ℕ → Option ℕ → Option ℕ
  number_after None count n = n
  number_after (Some b) count n = if b.1 == count then n else Some b.1

  abbrev pub longer : List L → List L → List L
  longer xs ys = if nat_le (length ys) (length xs) then xs else ys

  abbrev pub shorter : List L → List L → List L
  shorter xs ys = if nat_le (length ys) (length xs) then ys else xs

module _ {L S : Type 0} where
  -- before the board is first put into its place
  abbrev pub fresh : S → PassView L S
  fresh start = record { stage = Fresh; start = start; number = None; seen = []; also_seen = []; mine = []; olds = []; out = None }

  -- what a join leaves of the seat that was joined into another
  abbrev pub emptied : S → PassView L S
  emptied start = record { stage = Emptied; start = start; number = None; seen = []; also_seen = []; mine = []; olds = []; out = None }

  -- a seat that has seen these lines and has no number
  abbrev pub newcomer : S → List L → PassView L S
  newcomer start seen = record { stage = Seated; start = start; number = None; seen = seen; also_seen = []; mine = []; olds = []; out = None }

  -- the new seat of a split
  abbrev pub beside : PassView L S → PassView L S
  beside v = newcomer v.start v.seen

  -- the board is out with the seat
  abbrev pub taken : List L → ℕ → PassView L S → PassView L S
  taken history count v = record v { out = Some (history, count) }

  -- the seat has seen this history, has this number and these lines, and is not out
  abbrev pub renewed : List L → Option ℕ → List L → PassView L S → PassView L S
  renewed history n mine v = record v { number = n; seen = history; mine = mine; out = None }

  -- a board with this history and count was given
  abbrev pub given : List L → ℕ → PassView L S → PassView L S
  given history count v = renewed history (number_after v.out count v.number) (v.mine ++ lines_beyond v.out history) v

  -- the second seat was joined into the first
  abbrev pub joined : PassView L S → PassView L S → PassView L S
  joined v u = record v { seen = longer v.seen u.seen; also_seen = shorter v.seen u.seen; olds = v.olds ++ with_own u.number u.mine u.olds }

  -- how often the number is the seat's own or one that it joined
  abbrev pub claims : ℕ → PassView L S → ℕ
  claims k v = is_at_some k v.number + sum_by (λ (e : ℕ × List L). is_at k e.0) v.olds
