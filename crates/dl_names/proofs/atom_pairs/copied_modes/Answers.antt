use Rattle.std.specs.Cmp.{nat_eq_equiv}
use Rattle.std.specs.Cmp.Lexicographic.{lists_equiv}
use Rattle.std.specs.Str.{bytes_eq}
use Rattle.dl_names.proofs.AtomLemmas.{put_next, put_all}
use Rattle.dl_names.proofs.atom_pairs.copied_modes.Goals as goal

pub loop-mode-preserved : goal.loop-mode-preserved
loop-mode-preserved c =
    put_next bytes_eq c.as_slice-all.result.now c.loop-mode.mode-index c.mode-item.result c.in_ok-copy.field-0 c.loop-mode.set.keys c.insert.new.self.keys
    c.loop-mode-test.true c.mode-item.is c.in_ok-copy.ensures c.loop-mode.invariant c.in_ok-insert.ensures.keys

pub returns : goal.returns
returns c =
    put_all (lists_equiv nat_eq_equiv) c.args.modes.now.keys c.as_slice-all.result.now c.loop-mode.set.keys c.loop-mode.mode-index c.as_slice-all.ensures.unique
    c.as_slice-all.ensures.keys c.loop-mode-test.false c.loop-mode.invariant
