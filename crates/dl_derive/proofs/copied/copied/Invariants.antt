use Rattle.std.proofs.Common.{◌≡◌, ℕ, ◌<◌, ◌≤◌, not}
use Rattle.std.specs.Prelude.{IsTrue}
use Rattle.dl_lit.specs.declared.literal.Tag.{Tag}
use Rattle.dl_marks.specs.Marks.{places, marked, is_owned}
use Rattle.dl_derive.specs.Part.{AreExactAt}
use Rattle.dl_derive.proofs.copied.copied.Given as goal

abbrev pub invariant-loop-number : goal.invariant-loop-number
invariant-loop-number g l = record {
  places : places l.copy ≡ l.names;
  owned : (n : ℕ) → n < l.names → IsTrue (is_owned l.copy n);
  exact : (n : ℕ) → n < l.number → AreExactAt l.small l.copy n;
  fresh : (t : Tag) (n : ℕ) → l.number ≤ n → n < l.names → marked l.copy t n ≡ not t.plus;
}
