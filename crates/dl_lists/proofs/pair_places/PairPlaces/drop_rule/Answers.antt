use Rattle.std.proofs.Common.{List, ℕ, ◌∙◌, sym, subst, arith}
use Rattle.std.specs.Prelude.{Contains}
use Rattle.std.proofs.lemmas.List.{length-map}
use Rattle.dl_rows.specs.Tables.{list_at}
use Rattle.dl_lists.specs.KeptPairs.{pair_in, pairs_in}
use Rattle.dl_rows.proofs.There.{live_most}
use Rattle.dl_lists.proofs.DropLemmas.{clear_fewer, just_stay, both_stay, both_placed}
use Rattle.dl_lists.proofs.pair_places.PairPlaces.drop_rule.Goals as goal

pub overflow_add-result : goal.overflow_add-result
overflow_add-result c =
    omega (
      arith,
      c.requires.few,
      c.drop_row-below.ensures.count,
      c.drop_row-above.ensures.count,
      live_most (pairs_in c.args.pairs.now.items),
      length-map c.args.pairs.now.items pair_in,
    )

pub drop_row-below-requires-clause-clear : goal.drop_row-below-requires-clause-clear
drop_row-below-requires-clause-clear c =
    clear_fewer c.args.rule (list_at c.args.self.now.uppers c.args.rule) c.row.result.now c.args.pairs.now c.args.pairs.now c.args.self.now.lowers
    (λ n m. subst (λ (row : List ℕ). Contains row n) c.row.ensures m) (λ l n has. has) (λ at was. was) c.requires.clear.above

pub drop_row-above-requires-clause-clear : goal.drop_row-above-requires-clause-clear
drop_row-above-requires-clause-clear c =
    clear_fewer c.args.rule (list_at c.args.self.now.lowers c.args.rule) c.row-2.result.now c.args.pairs.now c.drop_row-below.new.pairs
    c.args.self.now.uppers
    (λ n m. c.drop_row-below.ensures.shorter n c.args.rule (subst (λ (row : List ℕ). Contains row n) c.row-2.ensures m))
    c.drop_row-below.ensures.fewer c.drop_row-below.ensures.owned c.requires.clear.below

pub returns-clause-pairs : goal.returns-clause-pairs
returns-clause-pairs c =
    just_stay c.args.rule (pairs_in c.args.pairs.now.items) (pairs_in c.drop_row-above.new.pairs.items)
    (c.drop_row-above.ensures.same ∙ c.drop_row-below.ensures.same)
    (both_stay c.args.rule (pairs_in c.args.pairs.now.items) (pairs_in c.drop_row-below.new.pairs.items) (pairs_in c.drop_row-above.new.pairs.items)
    c.args.self.now.uppers c.args.self.now.lowers c.drop_row-below.new.others c.drop_row-above.new.others c.requires.placed
    c.drop_row-below.ensures.fewer
    (λ l n m has. c.drop_row-below.ensures.gone l n (subst (λ (row : List ℕ). Contains row n) (sym c.row.ensures) m) has)
    c.drop_row-below.ensures.kept c.drop_row-above.ensures.fewer
    (λ l n m has. c.drop_row-above.ensures.gone l n (subst (λ (row : List ℕ). Contains row n) (sym c.row-2.ensures) m) has)
    c.drop_row-above.ensures.kept)

pub returns-clause-places : goal.returns-clause-places
returns-clause-places c =
    both_placed c.args.rule (pairs_in c.args.pairs.now.items) (pairs_in c.drop_row-below.new.pairs.items) (pairs_in c.drop_row-above.new.pairs.items)
    c.args.self.now.uppers c.args.self.now.lowers c.drop_row-below.new.others c.drop_row-above.new.others c.requires.placed
    c.drop_row-below.ensures.fewer
    (λ l n m has. c.drop_row-below.ensures.gone l n (subst (λ (row : List ℕ). Contains row n) (sym c.row.ensures) m) has)
    c.drop_row-below.ensures.kept c.drop_row-above.ensures.fewer
    (λ l n m has. c.drop_row-above.ensures.gone l n (subst (λ (row : List ℕ). Contains row n) (sym c.row-2.ensures) m) has)
    c.drop_row-above.ensures.kept c.clear.new.self c.clear-2.new.self c.clear.ensures.lists c.clear-2.ensures.lists
