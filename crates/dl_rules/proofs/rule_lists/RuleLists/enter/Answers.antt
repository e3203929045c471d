use Rattle.std.proofs.Common.{◌≡◌, ℕ, ◌<◌, Bool, List, [], ◌∷◌, ◌++◌, length, cond, sym, ap, subst, ◌∙◌}
use Rattle.std.specs.Prelude.{All}
use Rattle.dl_base.specs.Paths.{IsDistinct}
use Rattle.dl_rows.specs.Tables.{list_at}
use Rattle.dl_rules.specs.Lines.{line_at}
use Rattle.dl_rows.specs.Counting.{is_in}
use Rattle.dl_rules.proofs.OnceLemmas.{All-each_once, is_in-each_once, distinct_once}
use Rattle.dl_rules.proofs.rule_lists.RuleLists.enter.Goals as goal

pub append_uses-requires-clause-within : goal.append_uses-requires-clause-within
append_uses-requires-clause-within c =
    let most : ℕ = length c.args.self.now.uses.lists in
    subst (λ (ns : List ℕ). All (λ n. n < most) ns) (sym c.each_once.ensures.numbers)
    (All-each_once (λ n. n < most) (line_at c.args.lines.now.items c.args.rule).body c.requires.body)

pub append_uses-requires-clause-once : goal.append_uses-requires-clause-once
append_uses-requires-clause-once c =
    subst (λ (ns : List ℕ). IsDistinct ns) (sym c.each_once.ensures.numbers) (distinct_once (line_at c.args.lines.now.items c.args.rule).body)

pub returns-clause-uses : goal.returns-clause-uses
returns-clause-uses c = λ n.
    let body : List ℕ = (line_at c.args.lines.now.items c.args.rule).body in
    let same : is_in c.each_once.result.now n ≡ is_in body n = ap (λ (ns : List ℕ). is_in ns n) c.each_once.ensures.numbers ∙ is_in-each_once body n in
    c.in_ok-append_uses.ensures.lists n ∙ ap (λ (b : Bool). list_at c.args.self.now.uses n ++ cond b (c.args.rule ∷ []) []) same
