use Rattle.std.proofs.Common.{◌≡◌, ℕ, ◌+◌, ◌-◌, ◌≤◌, ◌++◌, List, length, take, sym, ap, subst, ◌∙◌, arith, length-append}
use Rattle.std.proofs.lemmas.List.{length-take-le}
use Rattle.std.proofs.lemmas.Result.{err_from_is_err_and}
use Rattle.dl_sup.specs.declared.link.Link.{Link}
use Rattle.dl_sup.specs.Links.{IsOrder}
use Rattle.dl_sup.specs.Adding.{AreAddable}
use Rattle.dl_theory.specs.declared.edit.PairsStop.{PairsStop}
use Rattle.dl_theory.specs.Superiority.{IsLinksStop}
use Rattle.dl_theory.proofs.Extending.{order_taken, stop_earlier, one_too_many}
use Rattle.dl_theory.proofs.rule_pairs.add_within_limit.Goals as goal

pub returns-in_err-add_all-clause-outcome : goal.returns-in_err-add_all-clause-outcome
returns-in_err-add_all-clause-outcome c =
    let p = err_from_is_err_and c.from_residual.result c.from_residual.ensures.1 in
    let old : List Link = c.args.links.now.items in
    let new : List Link = c.add_all.new.links.items in
    let tried : ℕ = c.min-tried.result in
    let same : p.0 ≡ c.in_err-add_all.field-0.0 = p.2 in
    rw p.1
    (stop_earlier c.args.items.now old new c.args.more.now tried (omega (arith, c.min-tried.ensures)) p.0
    (subst (λ (s : PairsStop). IsLinksStop c.args.items.now old new (take tried c.args.more.now) s) (sym same) c.in_err-add_all.ensures.outcome))

pub returns-clause-order : goal.returns-clause-order
returns-clause-order c =
    subst (λ (ls : List Link). IsOrder ls) (sym c.truncate.ensures.items) (order_taken 1000000 c.add_all.new.links.items c.in_ok-add_all.ensures.order)

pub returns-clause-outcome : goal.returns-clause-outcome
returns-clause-outcome c =
    let old : List Link = c.args.links.now.items in
    let new : List Link = c.add_all.new.links.items in
    let more : List Link = c.args.more.now in
    let tried : ℕ = c.min-tried.result in
    let room : ℕ = 1000000 - c.len-room.result in
    let within : tried ≤ length more = omega (arith, c.min-tried.ensures) in
    let outcome : AreAddable old (take tried more) × (new ≡ old ++ take tried more) = c.in_ok-add_all.ensures.outcome in
    let size : length new ≡ length old + tried =
    ap length outcome.1 ∙ length-append old (take tried more) ∙ ap (λ n. length old + n) (length-take-le tried more within) in
    let all : tried ≡ room + 1 =
    omega (arith, size, c.min-tried.ensures, c.len.ensures, c.if-len-le-LIMIT.false, c.len-room.ensures, c.requires.few) in
    one_too_many c.args.items.now old new c.truncate.new.self.items more room 1000000 (omega (arith, within, all))
    (omega (arith, c.len-room.ensures, c.requires.few)) (omega arith)
    (subst (λ (n : ℕ). AreAddable old (take n more) × (new ≡ old ++ take n more)) all outcome) c.truncate.ensures.items
