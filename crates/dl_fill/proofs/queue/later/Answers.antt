use Rattle.std.proofs.Common.{◌≡◌, ℕ, List, length, sym, subst, ap, ◌∙◌, arith}
use Rattle.dl_fill.specs.Counters.{CounterLists, AreNodes}
use Rattle.dl_fill.proofs.Engine.{length-hits}
use Rattle.dl_fill.proofs.Waiting.{one_waits, waits_is, waits_none}
use Rattle.dl_fill.proofs.queue.later.Goals as goal
use Rattle.dl_fill.proofs.queue.later.Goals.{then-is_full, else-is_full}

pub returns-clause-waits : goal.returns-clause-waits
returns-clause-waits c =
    let v = c.if-is_full.counters in
    let size : length v.need ≡ length c.args.counters.now.need = elim c.if-is_full.branch [
      | then-is_full w ↦ ap (λ (u : CounterLists). length u.need) (w.counters-is ∙ w.settle.ensures.made) ∙ length-hits c.args.hits.now.items c.args.counters.now
      | else-is_full w ↦ ap (λ (u : CounterLists). length u.need) w.counters-is
    ] in
    let waits : AreNodes v c.if-is_full.hits.items = elim c.if-is_full.branch [
      | then-is_full w ↦ waits_none v c.if-is_full.hits w.settle.new.hits w.hits-is w.settle.ensures.none
      | else-is_full w ↦ waits_is v c.args.counters.now c.if-is_full.hits c.args.hits.now w.counters-is w.hits-is c.requires.waits
    ] in
    subst (λ (xs : List ℕ). AreNodes v xs) (sym c.push.ensures.items)
    (one_waits c.args.counters.now v c.if-is_full.hits.items c.word-word.result size (omega (arith, c.word-word.ensures, c.requires.inside)) waits)
