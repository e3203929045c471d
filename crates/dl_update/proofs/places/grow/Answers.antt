use Rattle.std.proofs.Common.{arith}
use Rattle.dl_net.specs.Edited.{edit_literals}
use Rattle.dl_graph.specs.Named.{IsNear}
use Rattle.dl_update.proofs.Bounds.{new_steps}
use Rattle.dl_update.proofs.Growth.{right_longer, right_grown}
use Rattle.dl_update.proofs.News.{enough_names}
use Rattle.dl_update.proofs.places.grow.Goals as goal

pub returns-in_err-lengthen-clause-right : goal.returns-in_err-lengthen-clause-right
returns-in_err-lengthen-clause-right g c =
    right_longer c.args.net.now.theory c.args.net.now.names c.args.marks.now c.lengthen.new.marks c.requires c.lengthen.ensures.longer
    c.lengthen.ensures.kept c.lengthen.ensures.fresh

pub returns-clause-right : goal.returns-clause-right
returns-clause-right g c =
    right_longer c.args.net.now.theory c.args.net.now.names c.args.marks.now c.lengthen.new.marks c.requires c.lengthen.ensures.longer
    c.lengthen.ensures.kept c.lengthen.ensures.fresh

-- the names that are known and those that are new
pub returns-clause-enough : goal.returns-clause-enough
returns-clause-enough g c = λ names by.
    let few = enough_names c.args.net.now.names (edit_literals c.args.edit.now) c.in_ok-more.more.literals c.in_ok-more.ensures.there names by in
    omega (arith, few, c.in_ok-count.ensures, c.names-known.ensures.len, c.len.ensures.len)

pub returns-clause-ready : goal.returns-clause-ready
returns-clause-ready g c = λ names by.
    let few = enough_names c.args.net.now.names (edit_literals c.args.edit.now) c.in_ok-more.more.literals c.in_ok-more.ensures.there names by in
    right_grown c.args.net.now.theory (IsNear (edit_literals c.args.edit.now)) c.args.net.now.names names c.names-known.ensures.numbered.mentioned by.0 by.1
    c.lengthen.new.marks
    (omega (arith, few, c.in_ok-count.ensures, c.names-known.ensures.len, c.len.ensures.len, c.in_ok-lengthen.ensures.enough))
    (right_longer c.args.net.now.theory c.args.net.now.names c.args.marks.now c.lengthen.new.marks c.requires c.lengthen.ensures.longer
    c.lengthen.ensures.kept c.lengthen.ensures.fresh)

pub returns-in_err-lengthen-clause-steps : goal.returns-in_err-lengthen-clause-steps
returns-in_err-lengthen-clause-steps g c =
    new_steps c.args.net.now.names c.args.edit.now c.in_ok-more.more.literals c.args.steps.now c.lengthen.new.steps c.len.ensures.distinct
    c.in_ok-more.ensures.grown
    (omega (arith, c.lengthen.ensures.steps, c.requires.room, c.in_ok-count.ensures, c.names-known.ensures.len, c.len.ensures.len))

pub returns-clause-steps : goal.returns-clause-steps
returns-clause-steps g c =
    new_steps c.args.net.now.names c.args.edit.now c.in_ok-more.more.literals c.args.steps.now c.lengthen.new.steps c.len.ensures.distinct
    c.in_ok-more.ensures.grown
    (omega (arith, c.lengthen.ensures.steps, c.requires.room, c.in_ok-count.ensures, c.names-known.ensures.len, c.len.ensures.len))
