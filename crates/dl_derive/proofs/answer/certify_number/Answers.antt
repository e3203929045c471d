use Rattle.std.proofs.Common.{subst}
use Rattle.dl_lit.specs.declared.literal.Literal.{Literal}
use Rattle.dl_derive.specs.Part.{IsOf}
use Rattle.dl_derive.proofs.Behind.{members_inside, all_behind, itself}
use Rattle.dl_derive.proofs.answer.certify_number.Goals as goal

pub certify_found-answer-requires-clause-found : goal.certify_found-answer-requires-clause-found
certify_found-answer-requires-clause-found c =
    members_inside c.args.net.now c.names.ensures.numbered c.args.number c.requires.number c.in_ok-found.found c.in_ok-found.ensures

pub certify_found-answer-requires-clause-closed : goal.certify_found-answer-requires-clause-closed
certify_found-answer-requires-clause-closed c =
    all_behind c.args.net.now c.names.ensures.numbered c.args.number c.requires.number c.in_ok-found.found c.in_ok-found.ensures

pub certify_found-answer-requires-clause-literal : goal.certify_found-answer-requires-clause-literal
certify_found-answer-requires-clause-literal c =
    subst (λ (q : Literal). IsOf c.args.net.now c.in_ok-found.found.members q) c.requires.literal
    (itself c.args.net.now c.names.ensures.numbered c.args.number c.requires.number c.in_ok-found.found c.in_ok-found.ensures)
