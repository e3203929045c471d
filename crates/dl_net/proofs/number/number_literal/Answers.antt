use Rattle.std.proofs.Common.{[], ◌∷◌, sym, subst}
use Rattle.dl_names.specs.Paired.{IsNear, Grows}
use Rattle.dl_names.proofs.NameLemmas.{Grows-none, both_grows, found_at, number_found}
use Rattle.dl_net.proofs.number.number_literal.Goals as goal

pub returns-clause-grown : goal.returns-clause-grown
returns-clause-grown c =
    subst (Grows (IsNear (c.args.literal.now ∷ [])) c.args.names.now.literals) (sym c.in_ok-number.ensures.named)
    (both_grows c.args.names.now.literals c.args.literal.now c.requires)

pub returns-clause-there : goal.returns-clause-there
returns-clause-there c =
    let f = found_at c.number.new.self.literals c.args.literal.now c.in_ok-number.number c.in_ok-number.ensures.number in
    (c.in_ok-number.number, f.0, f.1 c.args.literal.now)

pub returns-clause-number : goal.returns-clause-number
returns-clause-number c =
    sym (number_found c.number.new.self.literals c.args.literal.now c.in_ok-number.number c.in_ok-number.ensures.distinct c.in_ok-number.ensures.number)

pub returns-in_err-number-clause-grown : goal.returns-in_err-number-clause-grown
returns-in_err-number-clause-grown c =
    subst (Grows (IsNear (c.args.literal.now ∷ [])) c.args.names.now.literals) (sym c.in_err-number.ensures.kept)
    (Grows-none (IsNear (c.args.literal.now ∷ [])) c.args.names.now.literals)
