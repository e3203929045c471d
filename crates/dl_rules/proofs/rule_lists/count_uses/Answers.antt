use Rattle.std.proofs.Common.{ℕ, ◌<◌, None, List, length, get_or, sym, subst, arith}
use Rattle.std.specs.Prelude.{All}
use Rattle.dl_rows.specs.Counting.{each_once}
use Rattle.dl_rules.specs.Lines.{Line, IsThereWithin, line_at}
use Rattle.dl_rules.proofs.OnceLemmas.{All-each_once}
use Rattle.dl_rules.proofs.rule_lists.count_uses.Goals as goal

pub count_each-requires : goal.count_each-requires
count_each-requires c =
    let line : Line = line_at c.args.lines.now.items c.loop-rule.rule in
    let within : IsThereWithin c.args.names (get_or c.args.lines.now.items c.loop-rule.rule None) =
    c.requires c.loop-rule.rule None (omega (arith, c.loop-rule-test.true, c.len-rule-end.ensures)) in
    subst (λ (ns : List ℕ). All (λ n. n < length c.loop-rule.counts.items) ns) (sym c.each_once.ensures.numbers)
    (subst (λ (most : ℕ). All (λ n. n < most) (each_once line.body)) (sym c.loop-rule.invariant.wide) (All-each_once (λ n. n < c.args.names) line.body within.1.1))
