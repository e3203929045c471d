use Rattle.std.proofs.Common.{◌≡◌, ℕ, List, ◌&&◌, take}
use Rattle.std.specs.List.{list_any}
use Rattle.std.specs.Set.{is_member}
use Rattle.std.specs.Str.{bytes_eq}
use Rattle.dl_check.specs.Derived.{is_derived}
use Rattle.dl_check.specs.Bands.{is_in}
use Rattle.dl_check.specs.Checking.{row}
use Rattle.dl_check.proofs.checker.Checker.labels_in.Given as goal

abbrev pub invariant-loop-rule : goal.invariant-loop-rule
invariant-loop-rule l =
    (k : List ℕ) → is_member bytes_eq l.labels.keys k ≡ list_any (λ r. bytes_eq r.label k && is_in (is_derived l.derived) l.band r) (take l.rule-index (row l.self l.q))
