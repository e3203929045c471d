use Rattle.std.proofs.Common.{ℕ, List, arith, sym, subst, inl, inr, ◌∙◌, ◌<◌}
use Rattle.dl_graph.specs.Counting.{times}
use Rattle.dl_graph.specs.Numbers.{heads}
use Rattle.dl_fill.proofs.Touching.{heads_inside, heads_few, stands_at, within_at, one_more, all_at, put_grows, put_has, grows_twice}
use Rattle.dl_fill.proofs.touch.touch_heads.Goals as goal

pub put-requires : goal.put-requires
put-requires c =
    let inside = heads_inside c.args.net.now c.args.number c.in-Some.rule (stands_at (heads c.args.net.now c.args.number) c.loop-rule.at c.in-Some.rule (sym c.heads.ensures ∙ c.in-Some.is)) in
    omega (arith, inside, c.requires.room, c.loop-rule.invariant.grows.bound)

pub overflow_add-at : goal.overflow_add-at
overflow_add-at c =
    let lt = within_at (heads c.args.net.now c.args.number) c.loop-rule.at c.in-Some.rule (sym c.heads.ensures ∙ c.in-Some.is) in
    omega (arith, lt, heads_few c.args.net.now c.args.number, c.rule_numbers-rules.ensures, c.rule_numbers-rules.type_inv)

pub loop-rule-smaller : goal.loop-rule-smaller
loop-rule-smaller c =
    let lt = within_at (heads c.args.net.now c.args.number) c.loop-rule.at c.in-Some.rule (sym c.heads.ensures ∙ c.in-Some.is) in
    omega (arith, lt)

pub loop-rule-preserved : goal.loop-rule-preserved
loop-rule-preserved c =
    let e = sym c.heads.ensures ∙ c.in-Some.is in
    let lt = within_at (heads c.args.net.now c.args.number) c.loop-rule.at c.in-Some.rule (sym c.heads.ensures ∙ c.in-Some.is) in
    let g = put_grows c.loop-rule.rules c.put.new.self c.in-Some.rule c.put.ensures.bound c.put.ensures.there c.put.ensures.new in
    record {
      there = λ r h. elim (one_more (heads c.args.net.now c.args.number) c.loop-rule.at c.in-Some.rule (sym c.heads.ensures ∙ c.in-Some.is) r h) [
        | inl before ↦ g.kept r (c.loop-rule.invariant.there r before)
        | inr is ↦
            subst (λ (v : ℕ). 0 < times v c.put.new.self.members) (sym is)
            (put_has c.loop-rule.rules c.put.new.self c.in-Some.rule c.put.ensures.bound c.put.ensures.there c.put.ensures.new)
      ];
      grows = grows_twice c.args.rules.now c.loop-rule.rules c.put.new.self c.loop-rule.invariant.grows g;
      within = omega (arith, lt);
    }

pub returns-clause-there : goal.returns-clause-there
returns-clause-there c = λ r h.
    c.loop-rule.invariant.there r
    (subst (λ (xs : List ℕ). 0 < times r xs) (sym (all_at (heads c.args.net.now c.args.number) c.loop-rule.at (sym c.heads.ensures ∙ c.in_default.is))) h)
