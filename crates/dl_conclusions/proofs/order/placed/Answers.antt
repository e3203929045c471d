use Rattle.std.proofs.Common.{◌∙◌, ◌+◌, true≢false, refl, sym, ap, subst, arith}
use Rattle.dl_lit.specs.declared.literal.Literal.{Literal}
use Rattle.dl_theory.specs.Listings.{Mentions}
use Rattle.dl_conclusions.specs.declared.placed.Placed.{Placed}
use Rattle.dl_conclusions.specs.Placing.{ArePlaced}
use Rattle.dl_conclusions.proofs.Placing.{one_more, none_more}
use Rattle.dl_conclusions.proofs.order.placed.Goals.{else-literal, then-literal+then-lives+in_ok-push, else-literal-via-then-literal+else-lives, else-literal-via-else-literal}
use Rattle.dl_conclusions.proofs.order.placed.Goals as goal

pub loop-number-preserved : goal.loop-number-preserved
loop-number-preserved c =
    let N = c.args.net.now in
    elim c.if-literal.branch [
      | then-literal+then-lives+in_ok-push w ↦
          let p : Placed = record { prefix = w.prefix_of-prefix.result; literal = c.literal-literal.result; number = c.loop-number.number } in
          one_more N c.loop-number.number c.loop-number.list.items c.loop-number.invariant c.if-literal.list.items p refl (ap (λ l. l.items) w.list-is ∙ w.in_ok-push.ensures.items) (record {
            within = omega (arith, c.loop-number-test.true, c.names-number-end.ensures.len);
            literal = c.literal-literal.ensures;
            positive = w.if-literal.true;
            mentioned = subst (λ (q : Literal). Mentions N.theory q) (sym c.literal-literal.ensures) (w.lives.ensures.0 w.if-lives.true);
            prefix_is = w.prefix_of-prefix.ensures.prefix;
            spelled = w.prefix_of-prefix.ensures.spelled;
          })
      | else-literal w ↦
          subst (λ xs. ArePlaced N (c.loop-number.number + 1) xs) (sym (ap (λ l. l.items) w.list-is))
          (none_more N c.loop-number.number c.loop-number.list.items c.loop-number.invariant (λ positive m.
          elim w.else-literal.branch [
            | else-literal-via-then-literal+else-lives v ↦ true≢false (sym (v.lives.ensures.1 m) ∙ v.if-lives.false)
            | else-literal-via-else-literal v ↦
                true≢false (sym (ap (λ (q : Literal). q.positive) c.literal-literal.ensures ∙ positive) ∙ v.if-literal.false)
          ]))
    ]
