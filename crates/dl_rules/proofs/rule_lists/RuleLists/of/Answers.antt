use Rattle.std.proofs.Common.{◌≡◌, ℕ, ◌+◌, ◌<◌, Option, None, Some, List, [], ◌∷◌, ◌++◌, length, get_or, take, set, cond, sym, ap, subst, ◌∙◌, arith}
use Rattle.std.proofs.Math.ListN.{length-set}
use Rattle.std.proofs.lemmas.List.{take_more, length-take-le}
use Rattle.dl_rows.specs.Tables.{RowLists, list_at}
use Rattle.dl_rules.specs.Lines.{Line, line_at, IsThereWithin}
use Rattle.dl_rows.specs.Counting.{is_in}
use Rattle.dl_rules.specs.Indexes.{HasRules}
use Rattle.dl_rules.proofs.RuleLemmas.{HasRules-add}
use Rattle.dl_rules.proofs.ThereLemmas.{there_is}
use Rattle.dl_rules.proofs.rule_lists.RuleLists.of.Goals as goal

pub loop-rule-preserved : goal.loop-rule-preserved
loop-rule-preserved c =
    let all : List (Option Line) = c.args.lines.now.items in
    let i : ℕ = c.loop-rule.rule in
    let lt : i < length all = omega (arith, c.loop-rule-test.true, c.len-rule-end.ensures) in
    let lines : List (Option Line) = take i all in
    let l : Line = line_at all i in
    let within : IsThereWithin c.count_lists.result (get_or all i None) = c.count_lists.ensures i None lt in
    let more : take (i + 1) all ≡ lines ++ Some l ∷ [] =
    take_more all i None lt ∙ ap (λ (o : Option Line). lines ++ o ∷ []) (there_is (get_or all i None) within.0) in
    let count : length lines ≡ i = length-take-le i all (omega (arith, lt)) in
    let h = c.loop-rule.invariant in
    let heads : RowLists = c.loop-rule.lists.heads in
    let uses : RowLists = c.loop-rule.lists.uses in
    let new = c.enter.new.self in
    let e = c.in_ok-enter.ensures in
    let by_head : new.heads.lists ≡ set heads.lists l.head (list_at heads l.head ++ length lines ∷ []) =
    subst (λ k. new.heads.lists ≡ set heads.lists l.head (list_at heads l.head ++ k ∷ [])) (sym count) e.heads in
    let by_use : (n : ℕ) → list_at new.uses n ≡ list_at uses n ++ cond (is_in l.body n) (length lines ∷ []) [] =
    subst (λ k. (n : ℕ) → list_at new.uses n ≡ list_at uses n ++ cond (is_in l.body n) (k ∷ []) []) (sym count) e.uses in
    record {
      rules = subst (λ (ls : List (Option Line)). HasRules ls new.heads new.uses) (sym more)
          (HasRules-add lines l heads uses new.heads new.uses h.rules (omega (arith, within.1.0, h.heads_wide, c.in_ok-lists.ensures.heads_wide)) by_head by_use
          e.uses_wide);
      heads_wide = ap length e.heads ∙ length-set heads.lists l.head (list_at heads l.head ++ i ∷ []) ∙ h.heads_wide;
      uses_wide = e.uses_wide ∙ h.uses_wide;
    }
