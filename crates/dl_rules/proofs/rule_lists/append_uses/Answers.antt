use Rattle.std.proofs.Common.{◌≡◌, ℕ, ◌+◌, ◌<◌, List, [], ◌∷◌, ◌++◌, length, get_or, take, cond, sym, ap, subst, ◌∙◌, arith}
use Rattle.std.proofs.Math.ListN.{length-set}
use Rattle.std.proofs.lemmas.List.{take_more}
use Rattle.std.proofs.lemmas.List.Elements.{All-get_or}
use Rattle.dl_rows.specs.Tables.{RowLists, list_at}
use Rattle.dl_rows.specs.Counting.{is_in}
use Rattle.dl_rules.proofs.OnceLemmas.{once_new}
use Rattle.dl_rules.proofs.PutLemmas.{added}
use Rattle.dl_rules.proofs.rule_lists.append_uses.Goals as goal

pub append-requires : goal.append-requires
append-requires c =
    omega (
      arith,
      c.loop-number.invariant.wide,
      All-get_or (λ k. k < length c.args.uses.now.lists) c.args.body.now c.loop-number.number-index 0 c.loop-number-test.true c.requires.within,
    )

pub loop-number-preserved : goal.loop-number-preserved
loop-number-preserved c =
    let body : List ℕ = c.args.body.now in
    let i : ℕ = c.loop-number.number-index in
    let b : ℕ = get_or body i 0 in
    let done : List ℕ = take i body in
    let old : RowLists = c.args.uses.now in
    let now : RowLists = c.loop-number.uses in
    let more : take (i + 1) body ≡ done ++ b ∷ [] = take_more body i 0 c.loop-number-test.true in
    let within : b < length now.lists =
    omega (arith, c.loop-number.invariant.wide, All-get_or (λ k. k < length old.lists) body i 0 c.loop-number-test.true c.requires.within) in
    record {
      lists = λ n.
          subst (λ (ds : List ℕ). list_at c.append.new.self n ≡ list_at old n ++ cond (is_in ds n) (c.args.rule ∷ []) []) (sym more)
          (added old now done b c.args.rule c.loop-number.invariant.lists c.append.new.self (once_new body i c.requires.once c.loop-number-test.true) within
          c.in_ok-append.ensures.lists n);
      wide = ap length c.in_ok-append.ensures.lists ∙ length-set now.lists b (list_at now b ++ c.args.rule ∷ []) ∙ c.loop-number.invariant.wide;
    }
