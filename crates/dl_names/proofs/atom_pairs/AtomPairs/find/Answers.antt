use Rattle.std.proofs.Common.{ℕ, List, position, refl, sym, ap, subst, ◌∙◌}
use Rattle.std.specs.Prelude.{slice_get}
use Rattle.std.specs.List.{list_any}
use Rattle.std.specs.Option.{option_map}
use Rattle.std.proofs.lemmas.Option.{slice_get-map}
use Rattle.dl_lit.specs.declared.literal.Literal.{Literal}
use Rattle.dl_names.specs.declared.atom.Atom.{Atom}
use Rattle.dl_names.specs.Atoms.{first_of, pair_eq}
use Rattle.dl_names.specs.Pairs.{same_atom}
use Rattle.dl_names.specs.Stems.{Knows}
use Rattle.dl_names.proofs.AtomLemmas.{any_of_map, position_of_map, none_by_number, all_by_number}
use Rattle.dl_names.proofs.NotedLemmas.{none_is, told_place, told_sign}
use Rattle.dl_names.proofs.atom_pairs.AtomPairs.find.Goals as goal

pub returns-in-None-clause-absent : goal.returns-in-None-clause-absent
returns-in-None-clause-absent c =
    ap (list_any (same_atom c.args.literal.now)) (sym c.self.view_is)
    ∙ none_by_number c.self.inside.modes.keys c.args.literal.now c.self.inside.atoms.keys c.in-None.ensures.absent

pub returns-in-None-get_full-clause-absent : goal.returns-in-None-get_full-clause-absent
returns-in-None-get_full-clause-absent c =
    let q : Literal = c.args.literal.now in
    let modes : List (List ℕ) = c.self.inside.modes.keys in
    let atoms : List Atom = c.self.inside.atoms.keys in
    ap (list_any (same_atom q)) (sym c.self.view_is)
    ∙ sym (any_of_map (λ a. pair_eq (c.in-Some-find_mode.mode, q.atom) (a.mode, a.name)) (same_atom q) (first_of modes) atoms
    (all_by_number modes q c.in-Some-find_mode.mode q.atom atoms c.self.invariant.distinct c.in-Some-find_mode.ensures.within c.in-Some-find_mode.ensures.number refl
    c.self.invariant.modes))
    ∙ sym c.in-None-get_full.ensures.found

pub returns-in-Some-get_full-clause-place : goal.returns-in-Some-get_full-clause-place
returns-in-Some-get_full-clause-place c =
    let q : Literal = c.args.literal.now in
    let modes : List (List ℕ) = c.self.inside.modes.keys in
    let atoms : List Atom = c.self.inside.atoms.keys in
    c.in-Some-get_full.ensures.index
    ∙ position_of_map (λ a. pair_eq (c.in-Some-find_mode.mode, q.atom) (a.mode, a.name)) (same_atom q) (first_of modes) atoms
    (all_by_number modes q c.in-Some-find_mode.mode q.atom atoms c.self.invariant.distinct c.in-Some-find_mode.ensures.within c.in-Some-find_mode.ensures.number refl
    c.self.invariant.modes)
    ∙ ap (position (same_atom q)) c.self.view_is

pub returns-in-Some-get_full-clause-sign : goal.returns-in-Some-get_full-clause-sign
returns-in-Some-get_full-clause-sign c =
    let modes : List (List ℕ) = c.self.inside.modes.keys in
    let k : ℕ = c.in-Some-get_full.place in (
      first_of modes c.in-Some-get_full.atom.now,
      ap (λ ls. slice_get ls k) (sym c.self.view_is) ∙ slice_get-map (first_of modes) c.self.inside.atoms.keys k
          ∙ ap (option_map (first_of modes)) c.in-Some-get_full.ensures.stored,
      refl,
    )

pub returns-in-Some-clause-place : goal.returns-in-Some-clause-place
returns-in-Some-clause-place c =
    let q : Literal = c.args.literal.now in
    let tells = c.self.invariant.noted q.atom c.in-Some.number (subst (λ (a : List ℕ). Knows c.self.inside.stems a c.in-Some.number) c.bytes.ensures.bytes c.in-Some.ensures) in
    told_place c.self.inside.modes.keys q c.self.inside.atoms.keys c.in-Some.number c.self.invariant.distinct c.self.invariant.modes c.self.invariant.once
    (none_is q.mode c.if-is_none.ensures) tells
    ∙ ap (position (same_atom q)) c.self.view_is

pub returns-in-Some-clause-sign : goal.returns-in-Some-clause-sign
returns-in-Some-clause-sign c =
    told_sign c.self.inside.modes.keys c.self.inside.atoms.keys c.args.self.now c.bytes.result.now c.in-Some.number c.self.view_is
    (c.self.invariant.noted c.bytes.result.now c.in-Some.number c.in-Some.ensures)
