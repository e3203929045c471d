use Rattle.std.proofs.Common.{ℕ, List, cond, sym, ap, subst, ◌∙◌}
use Rattle.std.specs.Prelude.{All}
use Rattle.dl_rows.specs.Tables.{list_at, drop_item, IsOpen}
use Rattle.dl_rows.specs.Counting.{is_in}
use Rattle.dl_rules.proofs.TakeLemmas.{cleared, in_without}
use Rattle.dl_rules.proofs.OpenLemmas.{all_without}
use Rattle.dl_rules.proofs.leave.take_links.Goals as goal

pub returns-clause-lowers : goal.returns-clause-lowers
returns-clause-lowers c =
    cleared c.args.rule c.take_out-2.new.rows c.clear.new.self
    (λ s. cond (is_in (list_at c.args.uppers.now c.args.rule) s) (drop_item c.args.rule (list_at c.args.lowers.now s)) (list_at c.args.lowers.now s))
    c.clear.ensures.lists
    (λ s d. c.take_out-2.ensures.lists s
    ∙ ap (λ b. cond b (drop_item c.args.rule (list_at c.args.lowers.now s)) (list_at c.args.lowers.now s))
    (ap (λ xs. is_in xs s) (c.row-2.ensures ∙ c.take_out.ensures.lists c.args.rule)
    ∙ in_without c.args.rule s (list_at c.args.uppers.now c.args.rule) (is_in c.row.result.now c.args.rule) d))

pub returns-clause-uppers : goal.returns-clause-uppers
returns-clause-uppers c =
    cleared c.args.rule c.take_out.new.rows c.clear-2.new.self
    (λ s. cond (is_in (list_at c.args.lowers.now c.args.rule) s) (drop_item c.args.rule (list_at c.args.uppers.now s)) (list_at c.args.uppers.now s))
    c.clear-2.ensures.lists
    (λ s d. c.take_out.ensures.lists s
    ∙ ap (λ xs. cond (is_in xs s) (drop_item c.args.rule (list_at c.args.uppers.now s)) (list_at c.args.uppers.now s)) c.row.ensures)

pub take_out-requires-2 : goal.take_out-requires-2
take_out-requires-2 c =
    subst (λ (xs : List ℕ). All (IsOpen c.args.lowers.now) xs) (sym (c.row-2.ensures ∙ c.take_out.ensures.lists c.args.rule))
    (all_without (IsOpen c.args.lowers.now) c.args.rule (list_at c.args.uppers.now c.args.rule) _ c.requires.above)
