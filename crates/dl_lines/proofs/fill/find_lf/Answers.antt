use Rattle.std.proofs.lemmas.List.{take_rest}
use Rattle.dl_lines.proofs.Found.{found_none, found_some}
use Rattle.dl_lines.proofs.fill.find_lf.Goals as goal

pub returns-in-None : goal.returns-in-None
returns-in-None c = found_none c.args.bytes.now _ c.args.from (take_rest c.args.bytes.now c.args.from) c.in-None.ensures

pub returns-in-Some : goal.returns-in-Some
returns-in-Some c =
    let first = c.in-Some.ensures in
    found_some c.args.bytes.now _ c.args.from c.in-Some.len c.requires (take_rest c.args.bytes.now c.args.from) first.0.high first.0.before first.1
