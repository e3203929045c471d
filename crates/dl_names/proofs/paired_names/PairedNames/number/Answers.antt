use Rattle.std.proofs.Common.{sym}
use Rattle.dl_names.proofs.NameLemmas.{found_at, both_old}
use Rattle.dl_names.proofs.paired_names.PairedNames.number.Goals as goal

pub returns-in-Some-clause-named : goal.returns-in-Some-clause-named
returns-in-Some-clause-named c =
    let f = found_at c.args.self.now.literals c.args.literal.now c.in-Some.number (sym c.in-Some.ensures.number) in
    sym (both_old c.args.self.now.literals c.args.literal.now c.in-Some.ensures.paired (c.in-Some.number, f.0, f.1 c.args.literal.now))
