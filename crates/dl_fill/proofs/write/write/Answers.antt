use Rattle.std.proofs.Common.{◌+◌, ◌<◌, get_or, length, arith, sym, ◌∙◌, take, subst}
use Rattle.std.proofs.lemmas.Option.{slice_get-get_or}
use Rattle.dl_fill.specs.Filled.{IsWritten}
use Rattle.dl_fill.proofs.Written.{written_more}
use Rattle.dl_fill.proofs.write.write.Goals as goal
use Rattle.dl_fill.proofs.write.write.Goals.{in-Some, in_default}

pub loop-place-preserved : goal.loop-place-preserved
loop-place-preserved g c =
    elim c.match-at.branch [
      | in-Some w ↦ record {
        written =
            subst (IsWritten c.args.width c.args.kind c.args.counters.now c.args.tag (take (c.loop-place.place + 1) c.args.region.now.members) c.args.marks.now) (sym w.marks-is)
            (written_more c.args.width c.args.kind c.args.counters.now c.args.tag c.args.region.now.members c.args.marks.now
            c.loop-place.marks w.write_one.new.marks c.loop-place.place w.in-Some.q (sym c.at.ensures.member ∙ w.in-Some.is) c.loop-place.invariant.written
            w.write_one.ensures.set w.write_one.ensures.kept w.write_one.ensures.places w.write_one.ensures.owned);
        steps = omega (arith, w.write_one.ensures.steps, w.steps-is, c.loop-place.invariant.steps);
      }
      | in_default w ↦
          let lt : c.loop-place.place < length c.args.region.now.members = omega (arith, c.loop-place-test.true, c.len-place-end.ensures.len) in
          absurd
          (w.in_default.not-Some (get_or c.args.region.now.members c.loop-place.place 0)
          (c.at.ensures.member ∙ slice_get-get_or c.args.region.now.members c.loop-place.place 0 lt))
    ]
