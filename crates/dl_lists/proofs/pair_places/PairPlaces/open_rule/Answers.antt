use Rattle.std.proofs.Common.{ℕ, List, ◌∙◌, sym, subst}
use Rattle.std.specs.Prelude.{Contains}
use Rattle.dl_rows.specs.Tables.{list_at}
use Rattle.dl_rows.specs.There.{HasNumber}
use Rattle.dl_lists.specs.declared.pair_slot.PairSlot.{PairSlot}
use Rattle.dl_lists.specs.KeptPairs.{pairs_in}
use Rattle.dl_lists.proofs.PairLemmas.{open_kept}
use Rattle.dl_lists.proofs.DropLemmas.{clear_fewer}
use Rattle.dl_lists.proofs.pair_places.PairPlaces.open_rule.Goals as goal

pub returns-clause-clear : goal.returns-clause-clear
returns-clause-clear c =
    let rule : ℕ = c.args.rule in
    let uppers = c.open.new.self in
    let lowers = c.open-2.new.self in
    let uppers' = c.open_row-2.new.others in
    let lowers' = c.open_row.new.others in
    let one = c.in_ok-open_row.ensures in
    let two = c.in_ok-open_row-2.ensures in
    record {
      above = clear_fewer rule c.row.result.now (list_at uppers' rule) c.open_row.new.pairs c.open_row-2.new.pairs lowers'
          (λ n m. subst (λ (row : List ℕ). Contains row n) (two.kept.lists rule ∙ sym c.row.ensures) m)
          (λ l n has. subst (λ (xs : List PairSlot). HasNumber (pairs_in xs) l n) two.items has) two.owned one.clear;
      below = clear_fewer rule c.row-2.result.now (list_at lowers' rule) c.open_row-2.new.pairs c.open_row-2.new.pairs uppers'
          (λ n m. subst (λ (row : List ℕ). Contains row n) (sym c.row-2.ensures) m) (λ l n has. has) (λ at was. was) two.clear;
      upper = open_kept uppers uppers' rule two.kept two.same c.in_ok-open.ensures.open;
      lower = open_kept lowers lowers' rule one.kept one.same c.in_ok-open-2.ensures.open;
    }
