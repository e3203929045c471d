use Rattle.std.proofs.Common.{◌≤◌, ℕ, List, length, map, sym, ap, subst, ◌∙◌, arith}
use Rattle.std.specs.Prelude.{All}
use Rattle.std.specs.List as keys
use Rattle.dl_base.specs.Paths.{IsDistinct}
use Rattle.dl_names.specs.declared.atom.Atom.{Atom}
use Rattle.dl_names.specs.Atoms.{atom_eq, first_of}
use Rattle.dl_names.proofs.atom_pairs.AtomPairs.copy.Goals as goal

pub invariant_of-result : goal.invariant_of-result
invariant_of-result c = record {
  distinct = subst (λ (ms : List (List ℕ)). IsDistinct ms) (sym c.in_ok-modes.ensures) c.self.invariant.distinct;
  few = omega (arith, ap length c.in_ok-modes.ensures, c.self.invariant.few);
  modes = subst (λ (ms : List (List ℕ)). All (λ a. a.mode ≤ length ms) c.in_ok-atoms.atoms.keys) (sym c.in_ok-modes.ensures)
      (subst (λ (vs : List Atom). All (λ a. a.mode ≤ length c.self.inside.modes.keys) vs) (sym c.in_ok-atoms.ensures) c.self.invariant.modes);
  once = subst (λ (vs : List Atom). keys.IsDistinct atom_eq vs) (sym c.in_ok-atoms.ensures) c.self.invariant.once;
  noted = λ a n knows. absurd (c.make.ensures a n knows);
}

pub returns : goal.returns
returns c = (λ i. map (first_of (c.in_ok-modes.ensures i)) (c.in_ok-atoms.ensures i)) ∙ c.self.view_is
