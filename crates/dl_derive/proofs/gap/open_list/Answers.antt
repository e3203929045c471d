use Rattle.std.proofs.Common.{◌<◌, List, ◌++◌, get_or, length, ap, sym, ◌∙◌, arith}
use Rattle.std.specs.declared.vec.Vec.{Vec}
use Rattle.std.specs.declared.alloc.Global.{Global}
use Rattle.std.proofs.lemmas.Option.{slice_get-get_or}
use Rattle.dl_lit.specs.declared.literal.Tagged.{Tagged}
use Rattle.dl_marks.specs.Marks.{marked}
use Rattle.dl_derive.specs.Gap.{open_number}
use Rattle.dl_derive.proofs.Gaps.{flat_take}
use Rattle.dl_derive.proofs.gap.open_list.Goals as goal
use Rattle.dl_derive.proofs.gap.open_list.Goals.{in-Some+in_ok-push_number, in_default}

pub loop-place-preserved : goal.loop-place-preserved
loop-place-preserved c =
    elim c.match-at.branch [
      | in-Some+in_ok-push_number w ↦
          ap (λ (v : Vec Tagged Global). v.items) w.list-is ∙ w.in_ok-push_number.ensures
          ∙ ap (λ (xs : List Tagged). xs ++ open_number c.args.net.now (marked c.args.marks.now) c.args.family w.in-Some.number) c.loop-place.invariant
          ∙ sym (flat_take (open_number c.args.net.now (marked c.args.marks.now) c.args.family) c.args.region.now.members c.loop-place.place w.in-Some.number
          (sym c.at.ensures.member ∙ w.in-Some.is))
      | in_default w ↦
          let lt : c.loop-place.place < length c.args.region.now.members = omega (arith, c.loop-place-test.true, c.len-place-end.ensures.len) in
          absurd
          (w.in_default.not-Some (get_or c.args.region.now.members c.loop-place.place 0)
          (c.at.ensures.member ∙ slice_get-get_or c.args.region.now.members c.loop-place.place 0 lt))
    ]
