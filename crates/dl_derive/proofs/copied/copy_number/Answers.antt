use Rattle.std.proofs.Common.{arith, subst, ◌∙◌}
use Rattle.dl_lit.specs.declared.literal.Literal.{Literal}
use Rattle.dl_derive.specs.Part.{IsOf}
use Rattle.dl_derive.proofs.Copying.{fresh_exact, copied_exact}
use Rattle.dl_derive.proofs.copied.copy_number.Goals as goal

pub copy_row-requires-clause-from : goal.copy_row-requires-clause-from
copy_row-requires-clause-from g c = omega (arith, c.in-Some.ensures.within, c.requires.right.room)

pub returns-in-Some-clause-exact : goal.returns-in-Some-clause-exact
returns-in-Some-clause-exact g c =
    copied_exact c.args.net.now c.args.small.now c.args.marks.now c.requires.right c.args.found.now.members c.requires.closed c.requires.part
    c.copy_row.new.copy c.args.number c.in-Some.from c.in-Some.ensures.within c.in-Some.ensures.there
    (c.in-Some.ensures.same ∙ c.in_ok-literal.ensures ∙ c.literal.ensures) c.copy_row.ensures.here

pub returns-clause-exact : goal.returns-clause-exact
returns-clause-exact g c =
    fresh_exact c.args.net.now c.args.small.now c.args.marks.now c.requires.right c.args.found.now.members c.requires.closed c.requires.part
    c.args.copy.now c.args.number (subst (λ (q : Literal). ¬ IsOf c.args.net.now c.args.found.now.members q) (c.in_ok-literal.ensures ∙ c.literal.ensures) c.in-None.ensures.absent) c.requires.fresh
