use Rattle.std.proofs.Common.{◌≡◌, ◌<◌, ℕ, Bool, true, false, Option, List, [], length, get_or, cond, sym, ap, subst, ◌∙◌, arith, rules}
use Rattle.std.specs.Prelude.{IsSome, slice_get}
use Rattle.std.proofs.lemmas.Option.{slice_get-get_or, get_or_from_slice_get}
use Rattle.dl_theory.specs.Lists.{can_support}
use Rattle.dl_rows.specs.Rows.{row, places}
use Rattle.dl_graph.specs.Numbers.{NetLists, rule_at, of_rule, lowers_row, defends_row, body_row, next}
use Rattle.dl_graph.specs.declared.link.Link.{Link}
use Rattle.dl_graph.proofs.RowLemmas.{row_defends}
use Rattle.dl_graph.proofs.graph.Graph.next.Goals as goal

some_at : (o : Option ℕ) (xs : List ℕ) (at : ℕ) → o ≡ slice_get xs at → at < length xs → IsSome o
some_at o xs at e lt = subst (λ (p : Option ℕ). IsSome p) (sym (e ∙ slice_get-get_or xs at 0 lt)) (search rules)

choice : (b : Bool) (xs ys : List ℕ) (at : ℕ) → ys ≡ cond b xs [] → at < length ys → (ys ≡ xs) × (at < length xs)
choice true xs ys at e lt = (e, subst (λ (zs : List ℕ). at < length zs) e lt)
choice false xs ys at e lt = absurd (omega (arith, ap length e, lt))

defends : (N : NetLists) (k at : ℕ) → at < length (row (of_rule (defends_row N)) N.rules k)
    → (row (of_rule (defends_row N)) N.rules k ≡ row (of_rule (lowers_row N)) N.rules k) × (at < length (row (of_rule (lowers_row N)) N.rules k))
defends N k at lt =
    choice (can_support (rule_at N k).kind) (row (of_rule (lowers_row N)) N.rules k) (row (of_rule (defends_row N)) N.rules k) at (row_defends N k) lt

pub given-requires-in-Defends : goal.given-requires-in-Defends
given-requires-in-Defends c =
    let N : NetLists = c.args.self.now in
    let h = defends N c.args.from c.args.at (subst (λ (l : Link). c.args.at < length (next N l c.args.from)) c.in-Defends.is c.requires) in
    some_at c.lower_at.result (row (of_rule (lowers_row N)) N.rules c.args.from) c.args.at c.lower_at.ensures h.1

pub given-requires-in-Counters : goal.given-requires-in-Counters
given-requires-in-Counters c =
    let N : NetLists = c.args.self.now in
    some_at c.lower_at-in-Counters.result (row (of_rule (lowers_row N)) N.rules c.args.from) c.args.at c.lower_at-in-Counters.ensures
    (subst (λ (l : Link). c.args.at < length (next N l c.args.from)) c.in-Counters.is c.requires)

pub returns-in-Uses : goal.returns-in-Uses
returns-in-Uses c =
    let N : NetLists = c.args.self.now in
    subst (λ (l : Link). c.given.result ≡ get_or (next N l c.args.from) c.args.at 0) (sym c.in-Uses.is)
    (sym (get_or_from_slice_get (places (of_rule (body_row N)) N.rules c.args.from) c.args.at c.given.result 0 (sym c.uses.ensures ∙ c.given.ensures)))

pub returns-in-Defends : goal.returns-in-Defends
returns-in-Defends c =
    let N : NetLists = c.args.self.now in
    let h = defends N c.args.from c.args.at (subst (λ (l : Link). c.args.at < length (next N l c.args.from)) c.in-Defends.is c.requires) in
    subst (λ (l : Link). c.given-in-Defends.result ≡ get_or (next N l c.args.from) c.args.at 0) (sym c.in-Defends.is)
    (sym (ap (λ (xs : List ℕ). get_or xs c.args.at 0) h.0
    ∙ get_or_from_slice_get (row (of_rule (lowers_row N)) N.rules c.args.from) c.args.at c.given-in-Defends.result 0 (sym c.lower_at.ensures ∙ c.given-in-Defends.ensures)))

pub returns-in-Counters : goal.returns-in-Counters
returns-in-Counters c =
    let N : NetLists = c.args.self.now in
    subst (λ (l : Link). c.given-in-Counters.result ≡ get_or (next N l c.args.from) c.args.at 0) (sym c.in-Counters.is)
    (sym (get_or_from_slice_get (row (of_rule (lowers_row N)) N.rules c.args.from) c.args.at c.given-in-Counters.result 0
    (sym c.lower_at-in-Counters.ensures ∙ c.given-in-Counters.ensures)))
