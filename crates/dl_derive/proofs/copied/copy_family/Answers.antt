use Rattle.std.proofs.Common.{◌≡◌, true}
use Rattle.dl_marks.specs.Marks.{marked}
use Rattle.dl_fill.specs.Before.{tag_of}
use Rattle.dl_derive.proofs.Copying.{each_sign, copies_then}
use Rattle.dl_derive.proofs.copied.copy_family.Goals as goal

pub returns-clause-here : goal.returns-clause-here
returns-clause-here g c =
    each_sign (λ plus. marked c.copy_tag-2.new.copy (tag_of plus c.args.family) c.args.to ≡ marked c.args.marks.now (tag_of plus c.args.family) c.args.from)
    (c.copy_tag-2.ensures.copies.kept (tag_of true c.args.family) c.copy_tag.ensures.here)
    c.copy_tag-2.ensures.here

pub returns-clause-copies : goal.returns-clause-copies
returns-clause-copies g c =
    copies_then c.args.marks.now c.args.from c.args.to c.args.copy.now c.copy_tag.new.copy c.copy_tag-2.new.copy c.copy_tag.ensures.copies c.copy_tag-2.ensures.copies
