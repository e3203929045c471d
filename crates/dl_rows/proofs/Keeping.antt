-- Tables that hold the same, one after another.
use Rattle.std.proofs.Common.{refl, ◌∙◌, arith}
use Rattle.dl_rows.specs.Tables.{RowLists, KeepsLists}

pub KeepsLists-refl : (t : RowLists) → KeepsLists t t
KeepsLists-refl t = record { lists = λ n. refl; wide = omega arith; room = λ n. omega arith }

pub KeepsLists-trans : (t u v : RowLists) → KeepsLists t u → KeepsLists u v → KeepsLists t v
KeepsLists-trans t u v h k = record {
  lists = λ n. k.lists n ∙ h.lists n;
  wide = omega (arith, h.wide, k.wide);
  room = λ n. omega (arith, h.room n, k.room n);
}
