use Rattle.std.proofs.Common.{ℕ, List, arith, sym, subst, inl, inr, ◌∙◌, ◌<◌}
use Rattle.dl_graph.specs.Counting.{times}
use Rattle.dl_graph.specs.Numbers.{heads, attackers_row, literal_at}
use Rattle.dl_fill.specs.Touched.{Touches}
use Rattle.dl_fill.proofs.Touching.{within_at, one_more, all_at}
use Rattle.dl_fill.proofs.touch.touch_members.Goals as goal

pub loop-at-preserved : goal.loop-at-preserved
loop-at-preserved c =
    let lt = within_at c.args.region.now.members c.loop-at.at c.in-Some.number (sym c.at.ensures.member ∙ c.in-Some.is) in
    record {
      touches = record {
        for_members = λ q m r h. elim (one_more c.args.region.now.members c.loop-at.at c.in-Some.number (sym c.at.ensures.member ∙ c.in-Some.is) q m) [
          | inl before ↦
              c.touch_against.ensures.grows.kept r (c.touch_heads.ensures.grows.kept r (c.loop-at.invariant.touches.for_members q before r h))
          | inr is ↦
              c.touch_against.ensures.grows.kept r (c.touch_heads.ensures.there r (subst (λ (v : ℕ). 0 < times r (heads c.args.net.now v)) is h))
        ];
        against_members = λ q m a k u h. elim (one_more c.args.region.now.members c.loop-at.at c.in-Some.number (sym c.at.ensures.member ∙ c.in-Some.is) q m) [
          | inl before ↦
              c.touch_against.ensures.grows.kept u (c.touch_heads.ensures.grows.kept u (c.loop-at.invariant.touches.against_members q before a k u h))
          | inr is ↦
              c.touch_against.ensures.there a (subst (λ (v : ℕ). 0 < times a (attackers_row c.args.net.now (literal_at c.args.net.now v))) is k) u h
        ];
      };
      bound = c.touch_against.ensures.grows.bound ∙ c.touch_heads.ensures.grows.bound ∙ c.loop-at.invariant.bound;
      within = omega (arith, lt);
    }

pub returns-clause-touches : goal.returns-clause-touches
returns-clause-touches c =
    subst (λ (xs : List ℕ). Touches c.args.net.now xs c.loop-at.rules.members) (all_at c.args.region.now.members c.loop-at.at (sym c.at.ensures.member ∙ c.in_default.is))
    c.loop-at.invariant.touches
