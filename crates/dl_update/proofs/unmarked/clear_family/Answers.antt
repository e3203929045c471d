use Rattle.std.proofs.Common.{◌≡◌, ◌≢◌, true, false, ap, ◌∙◌}
use Rattle.dl_lit.specs.declared.literal.Tag.{Tag}
use Rattle.dl_marks.specs.Marks.{marked}
use Rattle.dl_marks.proofs.MarkLemmas.{written_here, written_otherwise, written_elsewhere}
use Rattle.dl_fill.specs.Before.{tag_of}
use Rattle.dl_update.proofs.EachFamily.{each_sign}
use Rattle.dl_update.proofs.unmarked.clear_family.Goals as goal

pub returns-clause-cleared : goal.returns-clause-cleared
returns-clause-cleared g c =
    let f = c.args.family in
    let n = c.args.number in
    let apart : tag_of true f ≢ tag_of false f = λ e. let plus : true ≡ false = ap (λ (t : Tag). t.plus) e in cc in
    each_sign (λ plus. marked c.clear-2.new.self (tag_of plus f) n ≡ false)
    (written_otherwise c.clear.new.self c.clear-2.new.self (tag_of false f) n false c.clear-2.ensures.marked (tag_of true f) n apart
    ∙ written_here c.args.marks.now c.clear.new.self (tag_of true f) n false c.clear.ensures.marked)
    (written_here c.clear.new.self c.clear-2.new.self (tag_of false f) n false c.clear-2.ensures.marked)

pub returns-clause-others : goal.returns-clause-others
returns-clause-others g c = λ t n apart.
    written_elsewhere c.clear.new.self c.clear-2.new.self (tag_of false c.args.family) c.args.number false c.clear-2.ensures.marked t n apart
    ∙ written_elsewhere c.args.marks.now c.clear.new.self (tag_of true c.args.family) c.args.number false c.clear.ensures.marked t n apart
