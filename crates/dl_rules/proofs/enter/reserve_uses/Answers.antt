use Rattle.std.proofs.Common.{ℕ, ◌<◌, List, get_or, take, sym, subst, ◌∙◌, arith}
use Rattle.std.specs.Prelude.{All}
use Rattle.std.proofs.lemmas.List.{take_more, take_all}
use Rattle.std.proofs.lemmas.List.Elements.{All-push, All-weaker}
use Rattle.dl_rows.specs.Tables.{RowLists, spare_at}
use Rattle.dl_rows.proofs.Keeping.{KeepsLists-trans}
use Rattle.dl_rules.proofs.enter.reserve_uses.Goals as goal

pub loop-number-preserved : goal.loop-number-preserved
loop-number-preserved c =
    let i : ℕ = c.loop-number.number-index in
    let new : RowLists = c.reserve.new.self in
    record {
      same = c.in_ok-reserve.ensures.same ∙ c.loop-number.invariant.same;
      kept = KeepsLists-trans c.args.uses.now c.loop-number.uses new c.loop-number.invariant.kept c.in_ok-reserve.ensures.kept;
      room = subst (λ (ds : List ℕ). All (λ b. 0 < spare_at new b) ds) (sym (take_more c.args.body.now i 0 c.loop-number-test.true))
          (All-push (λ b. 0 < spare_at new b) (take i c.args.body.now) (get_or c.args.body.now i 0)
          (All-weaker (λ b. 0 < spare_at c.loop-number.uses b) (λ b. 0 < spare_at new b) (λ b h. omega (arith, h, c.in_ok-reserve.ensures.kept.room b))
          (take i c.args.body.now) c.loop-number.invariant.room) c.in_ok-reserve.ensures.room);
    }

pub returns-clause-room : goal.returns-clause-room
returns-clause-room c =
    subst (λ (ds : List ℕ). All (λ b. 0 < spare_at c.loop-number.uses b) ds)
    (take_all c.loop-number.number-index c.args.body.now c.loop-number-test.false) c.loop-number.invariant.room
