use Rattle.std.proofs.Common.{ℕ, ◌<◌, ◌∙◌, inl, inr, arith, subst, sym}
use Rattle.std.proofs.lemmas.Bool.{cases_eq}
use Rattle.dl_graph.specs.Counting.{times}
use Rattle.dl_fill.proofs.Touching.{put_grows, put_has}
use Rattle.dl_fill.proofs.touch.touch_all.Goals as goal

pub loop-rule-preserved : goal.loop-rule-preserved
loop-rule-preserved c =
    let g = put_grows c.loop-rule.rules c.put.new.self c.loop-rule.rule c.put.ensures.bound c.put.ensures.there c.put.ensures.new in
    record {
      there = λ r lt. elim (cases_eq r c.loop-rule.rule) [
        | inl is ↦
            subst (λ (v : ℕ). 0 < times v c.put.new.self.members) (sym is)
            (put_has c.loop-rule.rules c.put.new.self c.loop-rule.rule c.put.ensures.bound c.put.ensures.there c.put.ensures.new)
        | inr other ↦ g.kept r (c.loop-rule.invariant.there r (omega (arith, lt, other)))
      ];
      bound = g.bound ∙ c.loop-rule.invariant.bound;
    }
