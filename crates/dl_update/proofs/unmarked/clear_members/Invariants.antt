use Rattle.std.proofs.Common.{◌≡◌, ◌+◌, ◌*◌, ℕ, false, take}
use Rattle.std.specs.Prelude.{All, Contains}
use Rattle.dl_lit.specs.declared.literal.Tag.{Tag}
use Rattle.dl_marks.specs.Marks.{places, marked, is_owned}
use Rattle.dl_update.proofs.unmarked.clear_members.Given as goal

abbrev pub invariant-loop-place : goal.invariant-loop-place
invariant-loop-place g l = record {
  places : places l.marks ≡ places l.fn.marks;
  owned : (n : ℕ) → is_owned l.marks n ≡ is_owned l.fn.marks n;
  cleared : (t : Tag) → All (λ n. marked l.marks t n ≡ false) (take l.place l.region.members);
  others : (t : Tag) (n : ℕ) → (¬ Contains l.region.members n) → marked l.marks t n ≡ marked l.fn.marks t n;
  steps : l.steps ≡ l.fn.steps + 8 * l.place;
}
