use Rattle.std.proofs.Common.{refl, sym, ◌∙◌}
use Rattle.dl_names.proofs.AtomLemmas.{mode_found, mode_put}
use Rattle.dl_names.proofs.atom_pairs.number_mode.Goals as goal

pub returns-in-Some-get_index_of-clause-number : goal.returns-in-Some-get_index_of-clause-number
returns-in-Some-get_index_of-clause-number c =
    mode_found c.args.modes.now.keys c.in-Some.name c.in-Some-get_index_of.place _ refl c.in-Some-get_index_of.ensures.index ∙ sym c.in-Some.is

pub returns-in-None-get_index_of-clause-number : goal.returns-in-None-get_index_of-clause-number
returns-in-None-get_index_of-clause-number c =
    mode_put c.add_mode.result c.args.modes.now.keys c.add_mode.new.modes.keys c.in-Some.name c.args.mode.now
    c.add_mode.ensures.number c.add_mode.ensures.added c.in-Some.is
