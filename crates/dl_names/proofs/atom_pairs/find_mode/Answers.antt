use Rattle.std.proofs.Common.{refl, sym, ◌∙◌}
use Rattle.dl_names.proofs.AtomLemmas.{mode_found, no_number}
use Rattle.dl_names.proofs.atom_pairs.find_mode.Goals as goal

pub returns-in-None-get_index_of-clause-absent : goal.returns-in-None-get_index_of-clause-absent
returns-in-None-get_index_of-clause-absent c =
    λ n e. no_number c.args.modes.now.keys c.in-Some.name n (sym c.in-None-get_index_of.ensures.found) (e ∙ c.in-Some.is)

pub returns-in-Some-get_index_of-clause-number : goal.returns-in-Some-get_index_of-clause-number
returns-in-Some-get_index_of-clause-number c =
    mode_found c.args.modes.now.keys c.in-Some.name c.in-Some-get_index_of.place _ refl c.in-Some-get_index_of.ensures.index ∙ sym c.in-Some.is
