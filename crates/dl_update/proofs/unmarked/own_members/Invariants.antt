use Rattle.std.proofs.Common.{◌≡◌, ℕ, take}
use Rattle.std.specs.Prelude.{All, IsTrue}
use Rattle.dl_lit.specs.declared.literal.Tag.{Tag}
use Rattle.dl_marks.specs.Marks.{places, marked, is_owned}
use Rattle.dl_update.proofs.unmarked.own_members.Given as goal

abbrev pub invariant-loop-place : goal.invariant-loop-place
invariant-loop-place l = record {
  places : places l.marks ≡ places l.fn.marks;
  same : (t : Tag) (n : ℕ) → marked l.marks t n ≡ marked l.fn.marks t n;
  owned : All (λ n. IsTrue (is_owned l.marks n)) (take l.place l.region.members);
}
