use Rattle.std.proofs.Common.{◌≡◌, ℕ, List, get_or, take, cond, sym, subst, ◌∙◌, arith}
use Rattle.std.proofs.lemmas.List.{take_more, take_all}
use Rattle.dl_rows.specs.Tables.{RowLists, list_at, drop_item}
use Rattle.dl_rows.specs.Counting.{is_in}
use Rattle.dl_rules.proofs.TakeLemmas.{taken}
use Rattle.dl_rules.proofs.OpenLemmas.{open_still}
use Rattle.dl_rules.proofs.leave.take_out.Goals as goal

pub loop-number-preserved : goal.loop-number-preserved
loop-number-preserved c =
    let xs : List ℕ = c.args.numbers.now in
    let i : ℕ = c.loop-number.number-index in
    let b : ℕ = get_or xs i 0 in
    let old : RowLists = c.args.rows.now in
    let now : RowLists = c.loop-number.rows in
    record {
      lists = λ n.
          subst (λ (ds : List ℕ). list_at c.remove.new.self n ≡ cond (is_in ds n) (drop_item c.args.item (list_at old n)) (list_at old n))
          (sym (take_more xs i 0 c.loop-number-test.true))
          (taken c.args.item old now c.remove.new.self (take i xs) b c.loop-number.invariant.lists c.remove.ensures.lists n);
      same = c.remove.ensures.same ∙ c.loop-number.invariant.same;
      room = λ n. omega (arith, c.loop-number.invariant.room n, c.remove.ensures.room n);
    }

pub returns-clause-lists : goal.returns-clause-lists
returns-clause-lists c = λ n.
    subst (λ (ds : List ℕ). list_at c.loop-number.rows n ≡ cond (is_in ds n) (drop_item c.args.item (list_at c.args.rows.now n)) (list_at c.args.rows.now n))
    (take_all c.loop-number.number-index c.args.numbers.now c.loop-number-test.false) (c.loop-number.invariant.lists n)

pub remove-requires : goal.remove-requires
remove-requires c =
    open_still c.args.rows.now c.loop-number.rows _ c.loop-number.invariant.same c.loop-number.invariant.room
    (c.requires c.loop-number.number-index 0 c.loop-number-test.true)

pub returns-clause-room : goal.returns-clause-room
returns-clause-room c = c.loop-number.invariant.room
