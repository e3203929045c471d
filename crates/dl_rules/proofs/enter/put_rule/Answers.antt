use Rattle.std.proofs.Common.{◌≡◌, ℕ, ◌<◌, Bool, List, [], ◌∷◌, ◌++◌, length, cond, sym, ap, subst, ◌∙◌}
use Rattle.std.specs.Prelude.{All}
use Rattle.dl_base.specs.Paths.{IsDistinct}
use Rattle.dl_rows.specs.Tables.{list_at, spare_at}
use Rattle.dl_rows.specs.Counting.{each_once, is_in}
use Rattle.dl_rules.specs.Lines.{Line}
use Rattle.dl_rules.proofs.OnceLemmas.{All-each_once, is_in-each_once, distinct_once}
use Rattle.dl_rules.proofs.enter.put_rule.Goals as goal

pub put_uses-requires-clause-room : goal.put_uses-requires-clause-room
put_uses-requires-clause-room c =
    subst (λ (ns : List ℕ). All (λ n. 0 < spare_at c.args.uses.now n) ns) (sym (c.each_once.ensures.numbers ∙ ap (λ (e : Line). each_once e.body) c.entry.view_is))
    (All-each_once (λ n. 0 < spare_at c.args.uses.now n) c.args.entry.body c.requires.uses_room)

pub put_uses-requires-clause-within : goal.put_uses-requires-clause-within
put_uses-requires-clause-within c =
    subst (λ (ns : List ℕ). All (λ n. n < length c.args.uses.now.lists) ns) (sym (c.each_once.ensures.numbers ∙ ap (λ (e : Line). each_once e.body) c.entry.view_is))
    (All-each_once (λ n. n < length c.args.uses.now.lists) c.args.entry.body c.requires.within)

pub put_uses-requires-clause-once : goal.put_uses-requires-clause-once
put_uses-requires-clause-once c = subst (λ (ns : List ℕ). IsDistinct ns) (sym (c.each_once.ensures.numbers ∙ ap (λ (e : Line). each_once e.body) c.entry.view_is)) (distinct_once c.args.entry.body)

pub returns-clause-uses : goal.returns-clause-uses
returns-clause-uses c = λ n.
    let same : is_in c.each_once.result.now n ≡ is_in c.args.entry.body n =
    ap (λ (ns : List ℕ). is_in ns n) (c.each_once.ensures.numbers ∙ ap (λ (e : Line). each_once e.body) c.entry.view_is) ∙ is_in-each_once c.args.entry.body n in
    c.put_uses.ensures.lists n
    ∙ ap (λ (b : Bool). list_at c.args.uses.now n ++ cond b (c.len-rule.result ∷ []) []) same
    ∙ ap (λ (k : ℕ). list_at c.args.uses.now n ++ cond (is_in c.args.entry.body n) (k ∷ []) []) c.len-rule.ensures
