use Rattle.std.proofs.Common.{◌≡◌, ℕ, ◌+◌, ◌<◌, false, List, [], ◌∷◌, ◌++◌, length, get_or, take, cond, sym, ap, subst, ◌∙◌, arith}
use Rattle.std.proofs.Math.ListN.{length-set}
use Rattle.std.proofs.lemmas.List.{take_more}
use Rattle.std.proofs.lemmas.List.Elements.{All-get_or}
use Rattle.dl_rows.specs.Tables.{RowLists, list_at, spare_at}
use Rattle.dl_rows.specs.Counting.{is_in}
use Rattle.dl_rules.proofs.OnceLemmas.{once_new}
use Rattle.dl_rules.proofs.PutLemmas.{added, room_kept}
use Rattle.dl_rules.proofs.enter.put_uses.Goals as goal

pub push-requires : goal.push-requires
push-requires c =
    let body : List ℕ = c.args.body.now in
    let i : ℕ = c.loop-number.number-index in
    let now : ℕ = spare_at c.loop-number.uses (get_or body i 0) in
    let as_before : now ≡ spare_at c.args.uses.now (get_or body i 0) =
    c.loop-number.invariant.room (get_or body i 0) (once_new body i c.requires.once c.loop-number-test.true) in
    omega (arith, as_before, All-get_or (λ n. 0 < spare_at c.args.uses.now n) body i 0 c.loop-number-test.true c.requires.room)

pub loop-number-preserved : goal.loop-number-preserved
loop-number-preserved c =
    let body : List ℕ = c.args.body.now in
    let i : ℕ = c.loop-number.number-index in
    let b : ℕ = get_or body i 0 in
    let done : List ℕ = take i body in
    let old : RowLists = c.args.uses.now in
    let now : RowLists = c.loop-number.uses in
    let more : take (i + 1) body ≡ done ++ b ∷ [] = take_more body i 0 c.loop-number-test.true in
    let within : b < length now.lists =
    omega (arith, c.loop-number.invariant.wide, All-get_or (λ k. k < length old.lists) body i 0 c.loop-number-test.true c.requires.within) in
    record {
      lists = λ n.
          subst (λ (ds : List ℕ). list_at c.push.new.self n ≡ list_at old n ++ cond (is_in ds n) (c.args.rule ∷ []) []) (sym more)
          (added old now done b c.args.rule c.loop-number.invariant.lists c.push.new.self (once_new body i c.requires.once c.loop-number-test.true) within
          c.push.ensures.lists n);
      room = λ n.
          subst (λ (ds : List ℕ). is_in ds n ≡ false → spare_at c.push.new.self n ≡ spare_at old n) (sym more)
          (room_kept old now c.push.new.self done b c.loop-number.invariant.room c.push.ensures.room n);
      wide = ap length c.push.ensures.lists ∙ length-set now.lists b (list_at now b ++ c.args.rule ∷ []) ∙ c.loop-number.invariant.wide;
    }
