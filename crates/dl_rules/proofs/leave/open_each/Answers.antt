use Rattle.std.proofs.Common.{List, ℕ, refl, subst, ◌∙◌}
use Rattle.std.specs.Prelude.{All}
use Rattle.std.proofs.lemmas.List.{take_all}
use Rattle.std.proofs.lemmas.List.Elements.{All-nil}
use Rattle.dl_rows.specs.Tables.{IsOpen}
use Rattle.dl_rows.proofs.Keeping.{KeepsLists-refl, KeepsLists-trans}
use Rattle.dl_rules.proofs.OpenLemmas.{one_more_open}
use Rattle.dl_rules.proofs.leave.open_each.Goals as goal

pub loop-number-init : goal.loop-number-init
loop-number-init c = record {
  kept = KeepsLists-refl c.args.rows.now;
  same = refl;
  able = All-nil (IsOpen c.args.rows.now);
}

pub returns-in_err-open-clause-kept : goal.returns-in_err-open-clause-kept
returns-in_err-open-clause-kept c = KeepsLists-trans c.args.rows.now c.loop-number.rows c.open.new.self c.loop-number.invariant.kept c.open.ensures.kept

pub returns-in_err-open-clause-same : goal.returns-in_err-open-clause-same
returns-in_err-open-clause-same c = c.open.ensures.same ∙ c.loop-number.invariant.same

pub loop-number-preserved : goal.loop-number-preserved
loop-number-preserved c = record {
  kept = KeepsLists-trans c.args.rows.now c.loop-number.rows c.open.new.self c.loop-number.invariant.kept c.open.ensures.kept;
  same = c.open.ensures.same ∙ c.loop-number.invariant.same;
  able = one_more_open c.loop-number.rows c.open.new.self c.args.numbers.now c.loop-number.number-index c.loop-number-test.true c.open.ensures.same
      c.open.ensures.kept.room c.loop-number.invariant.able c.in_ok-open.ensures.open;
}

pub returns-clause-open : goal.returns-clause-open
returns-clause-open c =
    subst (λ (ys : List ℕ). All (IsOpen c.loop-number.rows) ys) (take_all c.loop-number.number-index c.args.numbers.now c.loop-number-test.false)
    c.loop-number.invariant.able
