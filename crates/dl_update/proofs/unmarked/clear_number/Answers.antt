use Rattle.std.proofs.Common.{◌≡◌, Bool, false}
use Rattle.dl_lit.specs.declared.literal.Family.TheVariants.{Definite, Blocking, Propagating}
use Rattle.dl_marks.specs.Marks.{marked}
use Rattle.dl_fill.specs.Before.{tag_of}
use Rattle.dl_update.proofs.EachFamily.{each_family}
use Rattle.dl_update.proofs.unmarked.clear_number.Goals as goal

pub returns-clause-cleared : goal.returns-clause-cleared
returns-clause-cleared g c = λ t.
    let n = c.args.number in
    let second = c.clear_family-2.ensures in
    let third = c.clear_family-3.ensures in
    let fourth = c.clear_family-4.ensures in
    each_family (λ f. (plus : Bool) → marked c.clear_family-4.new.marks (tag_of plus f) n ≡ false)
    (λ plus.
    fourth.kept (tag_of plus Definite) n
    (third.kept (tag_of plus Definite) n (second.kept (tag_of plus Definite) n (c.clear_family.ensures.cleared plus))))
    (λ plus. fourth.kept (tag_of plus Blocking) n (third.kept (tag_of plus Blocking) n (second.cleared plus)))
    (λ plus. fourth.kept (tag_of plus Propagating) n (third.cleared plus)) (λ plus. fourth.cleared plus) t.family t.plus
