use Rattle.std.proofs.Common.{◌≡◌, Bool}
use Rattle.dl_lit.specs.declared.literal.Family.TheVariants.{Definite, Blocking, Propagating}
use Rattle.dl_marks.specs.Marks.{marked}
use Rattle.dl_fill.specs.Before.{tag_of}
use Rattle.dl_derive.proofs.Copying.{each_family, copies_then}
use Rattle.dl_derive.proofs.copied.copy_row.Goals as goal

pub returns-clause-here : goal.returns-clause-here
returns-clause-here g c = λ t.
    let second = c.copy_family-2.ensures in
    let third = c.copy_family-3.ensures in
    let fourth = c.copy_family-4.ensures in
    each_family (λ f. (plus : Bool) → marked c.copy_family-4.new.copy (tag_of plus f) c.args.to ≡ marked c.args.marks.now (tag_of plus f) c.args.from)
    (λ plus.
    fourth.copies.kept (tag_of plus Definite)
    (third.copies.kept (tag_of plus Definite) (second.copies.kept (tag_of plus Definite) (c.copy_family.ensures.here plus))))
    (λ plus. fourth.copies.kept (tag_of plus Blocking) (third.copies.kept (tag_of plus Blocking) (second.here plus)))
    (λ plus. fourth.copies.kept (tag_of plus Propagating) (third.here plus)) (λ plus. fourth.here plus) t.family t.plus

pub returns-clause-copies : goal.returns-clause-copies
returns-clause-copies g c =
    let m = c.args.marks.now in
    let from = c.args.from in
    let to = c.args.to in
    copies_then m from to c.args.copy.now c.copy_family.new.copy c.copy_family-4.new.copy c.copy_family.ensures.copies
    (copies_then m from to c.copy_family.new.copy c.copy_family-2.new.copy c.copy_family-4.new.copy c.copy_family-2.ensures.copies
    (copies_then m from to c.copy_family-2.new.copy c.copy_family-3.new.copy c.copy_family-4.new.copy c.copy_family-3.ensures.copies c.copy_family-4.ensures.copies))
