-- Writes of how many lines follow, and of the lines.
use Rattle.std.proofs.Common.{◌≡◌, ℕ, List, ◌++◌, Option, subst}
use Rattle.std.specs.Prelude.{Result}
use Rattle.std.specs.Io.KnownBytes.{append_known}
use Rattle.dl_io.specs.Streams.{WritesAll}
use Rattle.dl_print.proofs.Writes.{Cuts, cut_first, then_all}
use Rattle.dl_session.specs.Text.{counted_line}

pub cut_counted : (old new : Option (List ℕ)) (words : List ℕ) (n m : ℕ) (text : List ℕ) → n ≡ m → Cuts old new (counted_line words n) → Cuts old new (counted_line words m ++ text)
cut_counted old new words n m text same h = cut_first old new (counted_line words m) text (subst (λ (k : ℕ). Cuts old new (counted_line words k)) same h)

pub then_counted : {E : Type 0} (old mid new : Option (List ℕ)) (result : Result (Unit {0}) E) (words : List ℕ) (n m : ℕ) (text : List ℕ) → n ≡ m
    → mid ≡ append_known old (counted_line words n) → WritesAll mid new result text → WritesAll old new result (counted_line words m ++ text)
then_counted old mid new result words n m text same e h =
    then_all old mid new result (counted_line words m) text (subst (λ (k : ℕ). mid ≡ append_known old (counted_line words k)) same e) h
