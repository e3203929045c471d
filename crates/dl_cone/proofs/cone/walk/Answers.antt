use Rattle.std.proofs.Common.{arith, sym, ◌∙◌}
use Rattle.dl_theory.specs.Cones.{IsSeed, RaisesTo}
use Rattle.dl_derive.proofs.Gaining.{none_past}
use Rattle.dl_fill.proofs.Solving.{region_few}
use Rattle.dl_cone.proofs.Gathering.{gathered_start, gathered_inside, gathered_next}
use Rattle.dl_cone.proofs.Reached.{gathered_cone}
use Rattle.dl_cone.proofs.cone.walk.Goals as goal

pub loop-at-init : goal.loop-at-init
loop-at-init c = record {
  gathered =
      gathered_start c.args.net.now (IsSeed c.args.net.now.theory c.args.edit.now) (RaisesTo c.args.net.now.theory)
      c.args.region.now c.put_seeds.new.region c.requires.bound c.requires.empty c.put_seeds.ensures;
}

pub put_raised-requires-clause-number : goal.put_raised-requires-clause-number
put_raised-requires-clause-number c =
    gathered_inside c.args.net.now (IsSeed c.args.net.now.theory c.args.edit.now) (RaisesTo c.args.net.now.theory)
    c.loop-at.at c.in-Some.number c.loop-at.region (sym c.at.ensures.member ∙ c.in-Some.is) c.loop-at.invariant.gathered

pub put_raised-requires-clause-bound : goal.put_raised-requires-clause-bound
put_raised-requires-clause-bound c = c.loop-at.invariant.gathered.bound

pub loop-at-preserved : goal.loop-at-preserved
loop-at-preserved c = record {
  gathered =
      gathered_next c.args.net.now (IsSeed c.args.net.now.theory c.args.edit.now) (RaisesTo c.args.net.now.theory)
      c.loop-at.at c.in-Some.number c.loop-at.region c.put_raised.new.region (sym c.at.ensures.member ∙ c.in-Some.is)
      c.loop-at.invariant.gathered c.put_raised.ensures;
}

pub returns-in-None : goal.returns-in-None
returns-in-None c =
    gathered_cone c.args.net.now c.names-names.ensures.numbered c.args.edit.now c.requires.accepted c.loop-at.at c.loop-at.region
    (none_past c.loop-at.region.members c.loop-at.at (sym c.at.ensures.member ∙ c.in-None.is)) c.loop-at.invariant.gathered

pub returns : goal.returns
returns c =
    gathered_cone c.args.net.now c.names-names.ensures.numbered c.args.edit.now c.requires.accepted c.loop-at.at c.loop-at.region
    (omega (arith, region_few c.loop-at.region c.len-len.ensures.region, c.loop-at.invariant.gathered.bound, c.loop-at-test.false, c.names-names.ensures.len))
    c.loop-at.invariant.gathered
