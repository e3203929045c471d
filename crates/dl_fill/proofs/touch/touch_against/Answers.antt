use Rattle.std.proofs.Common.{ℕ, List, sym, subst, inl, inr, ◌∙◌, ◌<◌}
use Rattle.dl_graph.specs.Counting.{times}
use Rattle.dl_graph.specs.Numbers.{heads, attackers_row, literal_at}
use Rattle.dl_fill.proofs.Touching.{one_more, all_at, grows_twice}
use Rattle.dl_fill.proofs.touch.touch_against.Goals as goal

pub loop-attacker-preserved : goal.loop-attacker-preserved
loop-attacker-preserved c = record {
  there = λ a m u h. elim (one_more (attackers_row c.args.net.now (literal_at c.args.net.now c.args.number)) c.loop-attacker.at c.in-Some.attacker (sym c.attacker.ensures ∙ c.in-Some.is) a m) [
    | inl before ↦ c.touch_heads.ensures.grows.kept u (c.loop-attacker.invariant.there a before u h)
    | inr is ↦ c.touch_heads.ensures.there u (subst (λ (v : ℕ). 0 < times u (heads c.args.net.now v)) is h)
  ];
  grows = grows_twice c.args.rules.now c.loop-attacker.rules c.touch_heads.new.rules c.loop-attacker.invariant.grows c.touch_heads.ensures.grows;
}

pub returns-clause-there : goal.returns-clause-there
returns-clause-there c = λ a m u h.
    c.loop-attacker.invariant.there a
    (subst (λ (xs : List ℕ). 0 < times a xs) (sym (all_at (attackers_row c.args.net.now (literal_at c.args.net.now c.args.number)) c.loop-attacker.at (sym c.attacker.ensures ∙ c.in_default.is))) m)
    u h
