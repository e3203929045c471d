use Rattle.std.proofs.Common.{◌≡◌, ℕ, ◌≤◌, ◌++◌, ◌∷◌, [], List, map, length, refl, sym, ap, subst, ◌∙◌, false, inl, inr}
use Rattle.std.specs.Prelude.{All}
use Rattle.std.specs.List.{list_any}
use Rattle.std.proofs.lemmas.List.{length-map}
use Rattle.std.proofs.lemmas.List.Elements.{All-push}
use Rattle.dl_base.specs.Paths.{IsDistinct}
use Rattle.dl_lit.specs.declared.literal.Literal.{Literal}
use Rattle.dl_names.specs.declared.atom.Atom.{Atom}
use Rattle.dl_names.specs.Atoms.{first_of, mode_at, atom_eq}
use Rattle.dl_names.specs.KeptAtoms.{Tells}
use Rattle.dl_names.specs.Pairs.{same_atom}
use Rattle.dl_names.proofs.AtomLemmas.{after_error, any_of_map, all_by_number, firsts_kept, firsts_put, first_put, modes_kept, key_added, key_there, key_place, not_true, not_false}
use Rattle.dl_names.proofs.NotedLemmas.{told_new, told_more}
use Rattle.dl_names.proofs.atom_pairs.AtomPairs.put.Goals as goal

-- a pair with the mode and the atom of a literal is there by its numbers, or by its literals
any_kept : (q : Literal) (modes : List (List ℕ)) (atoms : List Atom) (a : Atom) (firsts : List Literal) → IsDistinct modes → a.mode ≤ length modes
    → mode_at modes a.mode ≡ q.mode → a.name ≡ q.atom → All (λ v. v.mode ≤ length modes) atoms → map (first_of modes) atoms ≡ firsts
    → list_any (same_atom q) firsts ≡ list_any (atom_eq a) atoms
any_kept q modes atoms a firsts distinct within mode name all kept =
    ap (list_any (same_atom q)) (sym kept)
    ∙ sym (any_of_map (atom_eq a) (same_atom q) (first_of modes) atoms (all_by_number modes q a.mode a.name atoms distinct within mode name all))

pub returns-in_err-mode-clause-kept : goal.returns-in_err-mode-clause-kept
returns-in_err-mode-clause-kept c =
    after_error c.from_residual.result
    (firsts_kept c.self.inside.modes.keys c.number_mode.new.modes.keys c.self.inside.atoms.keys c.number_mode.ensures.grown c.self.invariant.modes
    ∙ c.self.view_is)

pub returns-in_err-name-clause-kept : goal.returns-in_err-name-clause-kept
returns-in_err-name-clause-kept c =
    after_error c.from_residual-in_err-name.result
    (firsts_kept c.self.inside.modes.keys c.number_mode.new.modes.keys c.self.inside.atoms.keys c.number_mode.ensures.grown c.self.invariant.modes
    ∙ c.self.view_is)

pub returns-in_err-place-clause-kept : goal.returns-in_err-place-clause-kept
returns-in_err-place-clause-kept c =
    after_error c.from_residual-in_err-place.result
    (ap (map (first_of c.number_mode.new.modes.keys)) c.in_err-place.ensures.err
    ∙ firsts_kept c.self.inside.modes.keys c.number_mode.new.modes.keys c.self.inside.atoms.keys c.number_mode.ensures.grown c.self.invariant.modes
    ∙ c.self.view_is)

pub returns-then-not-new-clause-there : goal.returns-then-not-new-clause-there
returns-then-not-new-clause-there c =
    let atoms : List Atom = c.self.inside.atoms.keys in
    let a : Atom = record { name = c.in_ok-name.name; mode = c.in_ok-mode.mode; positive = c.args.literal.now.positive } in
    ap (map (first_of c.number_mode.new.modes.keys))
    (c.in_ok-place.ensures.keys ∙ key_there atom_eq atoms a (not_false (list_any (atom_eq a) atoms) (sym c.if-not-new.true ∙ c.in_ok-place.ensures.added)))
    ∙ firsts_kept c.self.inside.modes.keys c.number_mode.new.modes.keys atoms c.number_mode.ensures.grown c.self.invariant.modes
    ∙ c.self.view_is

pub returns-then-not-new-clause-old : goal.returns-then-not-new-clause-old
returns-then-not-new-clause-old c =
    let q : Literal = c.args.literal.now in
    let old : List (List ℕ) = c.self.inside.modes.keys in
    let new : List (List ℕ) = c.number_mode.new.modes.keys in
    let atoms : List Atom = c.self.inside.atoms.keys in
    let a : Atom = record { name = c.in_ok-name.name; mode = c.in_ok-mode.mode; positive = c.args.literal.now.positive } in
    any_kept q new atoms a c.args.self.now c.number_mode.ensures.distinct c.in_ok-mode.ensures.within c.in_ok-mode.ensures.number c.in_ok-name.ensures
    (modes_kept old new atoms c.number_mode.ensures.grown c.self.invariant.modes)
    (firsts_kept old new atoms c.number_mode.ensures.grown c.self.invariant.modes ∙ c.self.view_is)
    ∙ not_false (list_any (atom_eq a) atoms) (sym c.if-not-new.true ∙ c.in_ok-place.ensures.added)

pub invariant_of-self-2 : goal.invariant_of-self-2
invariant_of-self-2 c =
    let new : List (List ℕ) = c.number_mode.new.modes.keys in
    let atoms : List Atom = c.self.inside.atoms.keys in
    let a : Atom = record { name = c.in_ok-name.name; mode = c.in_ok-mode.mode; positive = c.args.literal.now.positive } in
    let none : list_any (atom_eq a) atoms ≡ false = not_true (list_any (atom_eq a) atoms) (sym c.if-not-new.false ∙ c.in_ok-place.ensures.added) in
    let added = sym (c.in_ok-place.ensures.keys ∙ key_added atom_eq atoms a none) in
    record {
      distinct = c.number_mode.ensures.distinct;
      few = c.number_mode.ensures.few;
      modes = subst (λ (vs : List Atom). All (λ v. v.mode ≤ length new) vs) added
          (All-push (λ v. v.mode ≤ length new) atoms a
          (modes_kept c.self.inside.modes.keys new atoms c.number_mode.ensures.grown c.self.invariant.modes) c.in_ok-mode.ensures.within);
      once = c.in_ok-place.ensures.unique;
      noted = λ name n knows. subst (λ (vs : List Atom). Tells vs name n) added (elim (c.note.ensures name n knows) [
        | inl here ↦ told_new atoms a name n (here.2 ∙ c.in_ok-place.ensures.index ∙ key_place atom_eq atoms a none) here.1 (c.in_ok-name.ensures ∙ sym here.0) here.3
        | inr was ↦ told_more atoms (a ∷ []) name n (c.self.invariant.noted name n was)
      ]);
    }

pub returns-clause-new : goal.returns-clause-new
returns-clause-new c =
    let q : Literal = c.args.literal.now in
    let old : List (List ℕ) = c.self.inside.modes.keys in
    let new : List (List ℕ) = c.number_mode.new.modes.keys in
    let atoms : List Atom = c.self.inside.atoms.keys in
    let a : Atom = record { name = c.in_ok-name.name; mode = c.in_ok-mode.mode; positive = c.args.literal.now.positive } in
    any_kept q new atoms a c.args.self.now c.number_mode.ensures.distinct c.in_ok-mode.ensures.within c.in_ok-mode.ensures.number c.in_ok-name.ensures
    (modes_kept old new atoms c.number_mode.ensures.grown c.self.invariant.modes)
    (firsts_kept old new atoms c.number_mode.ensures.grown c.self.invariant.modes ∙ c.self.view_is)
    ∙ not_true (list_any (atom_eq a) atoms) (sym c.if-not-new.false ∙ c.in_ok-place.ensures.added)

pub returns-clause-place : goal.returns-clause-place
returns-clause-place c =
    let atoms : List Atom = c.self.inside.atoms.keys in
    let a : Atom = record { name = c.in_ok-name.name; mode = c.in_ok-mode.mode; positive = c.args.literal.now.positive } in
    c.in_ok-place.ensures.index
    ∙ key_place atom_eq atoms a (not_true (list_any (atom_eq a) atoms) (sym c.if-not-new.false ∙ c.in_ok-place.ensures.added))
    ∙ sym (length-map atoms (first_of c.self.inside.modes.keys)) ∙ ap length c.self.view_is

pub returns-clause-added : goal.returns-clause-added
returns-clause-added c =
    let q : Literal = c.args.literal.now in
    let old : List (List ℕ) = c.self.inside.modes.keys in
    let new : List (List ℕ) = c.number_mode.new.modes.keys in
    let atoms : List Atom = c.self.inside.atoms.keys in
    let a : Atom = record { name = c.in_ok-name.name; mode = c.in_ok-mode.mode; positive = c.args.literal.now.positive } in
    ap (map (first_of new))
    (c.in_ok-place.ensures.keys ∙ key_added atom_eq atoms a (not_true (list_any (atom_eq a) atoms) (sym c.if-not-new.false ∙ c.in_ok-place.ensures.added)))
    ∙ firsts_put new q a atoms (first_put new q a c.in_ok-mode.ensures.number c.in_ok-name.ensures refl)
    ∙ ap (λ ls. ls ++ q ∷ []) (firsts_kept old new atoms c.number_mode.ensures.grown c.self.invariant.modes ∙ c.self.view_is)
