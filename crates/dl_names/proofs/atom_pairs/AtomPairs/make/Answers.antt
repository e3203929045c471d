use Rattle.std.proofs.Common.{◌≤◌, ℕ, List, length, sym, ap, subst, arith}
use Rattle.std.specs.Prelude.{All}
use Rattle.std.specs.List as keys
use Rattle.std.proofs.lemmas.List.Elements.{All-nil}
use Rattle.dl_base.specs.Paths.{IsDistinct}
use Rattle.dl_base.proofs.Distinct.{distinct_nil}
use Rattle.dl_names.specs.declared.atom.Atom.{Atom}
use Rattle.dl_names.specs.Atoms.{atom_eq}
use Rattle.dl_names.proofs.NotedLemmas.{none_twice}
use Rattle.dl_names.proofs.atom_pairs.AtomPairs.make.Goals as goal

pub invariant_of-result : goal.invariant_of-result
invariant_of-result c = record {
  distinct = subst (λ (ms : List (List ℕ)). IsDistinct ms) (sym c.name_set.ensures) distinct_nil;
  few = omega (arith, ap length c.name_set.ensures);
  modes = subst (λ (vs : List Atom). All (λ v. v.mode ≤ length c.name_set.result.keys) vs) (sym c.name_set-2.ensures)
      (All-nil (λ v. v.mode ≤ length c.name_set.result.keys));
  once = subst (λ (vs : List Atom). keys.IsDistinct atom_eq vs) (sym c.name_set-2.ensures) (none_twice atom_eq);
  noted = λ a n knows. absurd (c.make.ensures a n knows);
}
