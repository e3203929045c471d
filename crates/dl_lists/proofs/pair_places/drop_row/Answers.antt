use Rattle.std.proofs.Common.{◌≡◌, ℕ, true, false, None, Some, List, get_or, sym, subst, ◌∙◌, arith}
use Rattle.std.proofs.lemmas.List.{length-map}
use Rattle.dl_sup.specs.declared.link.Link.{Link}
use Rattle.dl_sup.specs.Links.{names_item}
use Rattle.dl_rows.specs.Tables.{IsOpen}
use Rattle.dl_rows.specs.There.{HasNumber}
use Rattle.dl_lists.specs.KeptPairs.{pair_in, pairs_in}
use Rattle.dl_rows.proofs.There.{live_most}
use Rattle.dl_lists.proofs.DropLemmas.{clearing_may, clearing_as, clearing_skip, clearing_drop, all_gone, names_upper, names_lower, names_none}
use Rattle.dl_lists.proofs.pair_places.drop_row.Goals as goal
use Rattle.dl_lists.proofs.pair_places.drop_row.Goals.{in-Some+then-pair-rule, then-pair-rule-via-then-pair-rule, then-pair-rule-via-else-pair-rule+then-pair-rule-2, in-Some+else-pair-rule+else-pair-rule-2, in_default}

pub overflow_add-count : goal.overflow_add-count
overflow_add-count c =
    omega (
      arith,
      c.requires.few,
      c.loop-number.invariant.drops.counted,
      live_most (pairs_in c.args.pairs.now.items),
      length-map c.args.pairs.now.items pair_in,
    )

pub remove-requires : goal.remove-requires
remove-requires c =
    let rule : ℕ = c.args.rule in
    let pair : Link = c.in-Some.pair in
    let names : names_item rule pair ≡ true =
    elim c.then-pair-rule.branch [
      | then-pair-rule-via-then-pair-rule v ↦ names_upper rule pair v.if-pair-rule.true
      | then-pair-rule-via-else-pair-rule+then-pair-rule-2 v ↦ names_lower rule pair v.if-pair-rule-2.true
    ] in
    subst (λ (s : ℕ). IsOpen c.loop-number.others s) (sym c.other_of.ensures)
    (clearing_may rule c.args.row.now c.loop-number.number-index c.args.pairs.now c.loop-number.pairs c.args.others.now c.loop-number.others
    c.loop-number.count c.loop-number.invariant c.requires.clear (omega (arith, c.loop-number-test.true)) pair
    (sym c.pair_at.ensures ∙ c.in-Some.is) names).1

pub loop-number-preserved : goal.loop-number-preserved
loop-number-preserved c =
    let rule : ℕ = c.args.rule in
    let row : List ℕ = c.args.row.now in
    let k : ℕ = c.loop-number.number-index in
    let number : ℕ = get_or row k 0 in
    let old = c.args.pairs.now in
    let new = c.loop-number.pairs in
    let before = c.args.others.now in
    let after = c.loop-number.others in
    let count : ℕ = c.loop-number.count in
    elim c.match-pair_at.branch [
      | in-Some+then-pair-rule w ↦
          let pair : Link = w.in-Some.pair in
          let at : HasNumber (pairs_in new.items) pair number = sym c.pair_at.ensures ∙ w.in-Some.is in
          let names : names_item rule pair ≡ true =
          elim w.then-pair-rule.branch [
            | then-pair-rule-via-then-pair-rule v ↦ names_upper rule pair v.if-pair-rule.true
            | then-pair-rule-via-else-pair-rule+then-pair-rule-2 v ↦ names_lower rule pair v.if-pair-rule-2.true
          ] in
          clearing_as rule row _ old w.put.new.self _ before w.remove.new.self _ _ _ w.pairs-is w.others-is w.count-is
          (clearing_drop rule row k old new before after count c.loop-number.invariant pair w.other_of.result w.put.new.self w.remove.new.self
          w.empty.result at names w.put.ensures.items w.put.ensures.owned w.empty.ensures w.remove.ensures.lists w.remove.ensures.same
          w.remove.ensures.room)
      | in-Some+else-pair-rule+else-pair-rule-2 w ↦
          let pair : Link = w.in-Some.pair in
          let at : HasNumber (pairs_in new.items) pair number = sym c.pair_at.ensures ∙ w.in-Some.is in
          clearing_as rule row _ old new _ before after _ count _ w.pairs-is w.others-is w.count-is
          (clearing_skip rule row k old new before after count c.loop-number.invariant
          (λ l has.
          let both : Some pair ≡ Some l = sym at ∙ has in
          let same : pair ≡ l = cc in
          subst (λ (p : Link). names_item rule p ≡ false) same (names_none rule pair w.if-pair-rule.false w.if-pair-rule-2.false)))
      | in_default w ↦
          clearing_as rule row _ old new _ before after _ count _ w.pairs-is w.others-is w.count-is
          (clearing_skip rule row k old new before after count c.loop-number.invariant
          (λ l has. let none : None ≡ Some l = sym w.in_default.is ∙ c.pair_at.ensures ∙ has in cc))
    ]

pub returns-clause-gone : goal.returns-clause-gone
returns-clause-gone c =
    all_gone c.args.rule c.args.row.now (pairs_in c.loop-number.pairs.items)
    (λ l k lt has. c.loop-number.invariant.drops.gone l k (omega (arith, lt, c.loop-number-test.false)) has)
