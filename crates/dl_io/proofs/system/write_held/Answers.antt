use Rattle.std.proofs.Common.{arith, ◌∙◌}
use Rattle.dl_io.proofs.Known.{moved_more, known_front-trans, writes_front}
use Rattle.dl_io.proofs.system.write_held.Goals as goal

pub loop-start-preserved : goal.loop-start-preserved
loop-start-preserved g c = record {
  within = omega (arith, c.in_ok-start.ensures.bound);
  bytes = moved_more (g.W.RawSink.got c.loop-start.raw) (g.W.RawSink.got c.write_retried.new.raw) c.args.held.now c.loop-start.start c.in_ok-start.field-0 c.in_ok-start.ensures.bytes.0 ∙ c.loop-start.invariant.bytes;
  handed = known_front-trans _ _ _ c.loop-start.invariant.handed (writes_front _ _ c.write_retried.result _ c.write_retried.ensures.bytes);
}
