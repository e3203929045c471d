use Rattle.dl_names.specs.Atoms.{atom_eq, atom_equiv}
use Rattle.dl_names.proofs.AtomLemmas.{put_next, put_all}
use Rattle.dl_names.proofs.atom_pairs.copied_atoms.Goals as goal

pub loop-atom-preserved : goal.loop-atom-preserved
loop-atom-preserved c =
    put_next atom_eq c.as_slice-all.result.now c.loop-atom.atom-index c.atom-item.result c.in_ok-copy.field-0 c.loop-atom.set.keys c.insert.new.self.keys
    c.loop-atom-test.true c.atom-item.is c.in_ok-copy.ensures c.loop-atom.invariant c.in_ok-insert.ensures.keys

pub returns : goal.returns
returns c =
    put_all atom_equiv c.args.atoms.now.keys c.as_slice-all.result.now c.loop-atom.set.keys c.loop-atom.atom-index c.as_slice-all.ensures.unique
    c.as_slice-all.ensures.keys c.loop-atom-test.false c.loop-atom.invariant
