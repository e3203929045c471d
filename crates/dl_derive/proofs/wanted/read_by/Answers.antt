use Rattle.std.proofs.Common.{◌≡◌, ◌/◌, ◌%◌, true, ◌∙◌}
use Rattle.dl_marks.specs.Marks.{marked}
use Rattle.dl_fill.specs.Before as before
use Rattle.dl_fill.specs.Reads.{basis_at}
use Rattle.dl_derive.specs.Wanted.{IsWanted, With}
use Rattle.dl_derive.proofs.Wanting.{with_more, each_next, each_all}
use Rattle.dl_derive.proofs.wanted.read_by.Goals as goal

pub loop-node-preserved : goal.loop-node-preserved
loop-node-preserved c = record {
  len = c.want_read.ensures.more.len ∙ c.loop-node.invariant.len;
  each =
      each_next (λ wanted y. before.is_inside c.args.region.now.members (y / c.args.width) ≡ true → With c.args.net.now (marked c.args.marks.now) (IsWanted wanted) (basis_at c.args.bases.now (y % c.args.width)) (y / c.args.width))
      (λ a b more y q e. with_more c.args.net.now (marked c.args.marks.now) (IsWanted a) (IsWanted b) more.kept (basis_at c.args.bases.now (y % c.args.width)) (y / c.args.width) (q e))
      c.args.nodes.now c.loop-node.node-index c.loop-node.wanted.items c.want_read.new.wanted.items c.want_read.ensures.more c.want_read.ensures.wants
      c.loop-node.invariant.each;
}

pub returns-clause-wants : goal.returns-clause-wants
returns-clause-wants c =
    each_all (λ wanted y. before.is_inside c.args.region.now.members (y / c.args.width) ≡ true → With c.args.net.now (marked c.args.marks.now) (IsWanted wanted) (basis_at c.args.bases.now (y % c.args.width)) (y / c.args.width))
    (λ a b more y q e. with_more c.args.net.now (marked c.args.marks.now) (IsWanted a) (IsWanted b) more.kept (basis_at c.args.bases.now (y % c.args.width)) (y / c.args.width) (q e))
    c.args.nodes.now c.loop-node.node-index c.loop-node.wanted.items c.loop-node-test.false c.loop-node.invariant.each
