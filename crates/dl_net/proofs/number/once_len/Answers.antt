use Rattle.std.proofs.Common.{◌≡◌, ℕ, ◌+◌, ◌++◌, ◌∷◌, [], List, length, take, get_or, sym, ap, ◌∙◌, arith}
use Rattle.std.proofs.lemmas.List.{take_more, length-take-le}
use Rattle.dl_rows.specs.Counting.{each_once, is_in}
use Rattle.dl_rules.proofs.OnceLemmas.{each_once-push_new, each_once-push_old, each_once_shorter, is_in-turned}
use Rattle.dl_net.proofs.number.once_len.Goals as goal
use Rattle.dl_net.proofs.number.once_len.Goals.{then-not-contains, else-not-contains}

pub overflow_add-count : goal.overflow_add-count
overflow_add-count c =
    omega (
      arith,
      c.loop-at.invariant,
      each_once_shorter (take c.loop-at.at c.args.numbers.now),
      length-take-le c.loop-at.at c.args.numbers.now (omega (arith, c.loop-at-test.true)),
      c.loop-at-test.true,
      c.loop-at.auto,
    )

pub loop-at-preserved : goal.loop-at-preserved
loop-at-preserved c =
    let xs : List ℕ = c.args.numbers.now in
    let at : ℕ = c.loop-at.at in
    let done : List ℕ = take c.loop-at.at c.args.numbers.now in
    let b : ℕ = get_or c.args.numbers.now c.loop-at.at 0 in
    let more : take (at + 1) xs ≡ done ++ b ∷ [] = take_more xs at 0 c.loop-at-test.true in
    let there : c.contains.result ≡ is_in done b = c.contains.ensures.value ∙ is_in-turned done b in
    elim c.if-not-contains.branch [
      | then-not-contains w ↦
          w.count-is ∙ ap (λ k. k + 1) c.loop-at.invariant
          ∙ sym (ap (λ ds. length (each_once ds)) more ∙ each_once-push_new done b (sym there ∙ w.if-not-contains.true))
      | else-not-contains w ↦
          w.count-is ∙ c.loop-at.invariant
          ∙ sym (ap (λ ds. length (each_once ds)) more ∙ each_once-push_old done b (sym there ∙ w.if-not-contains.false))
    ]
