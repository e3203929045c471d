use Rattle.std.proofs.Common.{◌≡◌, ◌<◌, [], ◌∷◌, ℕ, List, map, sym, subst, ◌∙◌, arith}
use Rattle.std.specs.Prelude.{All, Contains}
use Rattle.std.proofs.lemmas.Result.{IfOk-weaker}
use Rattle.dl_lit.specs.declared.literal.Literal.{Literal}
use Rattle.dl_lit.specs.Names.{Numbering}
use Rattle.dl_names.specs.Paired.{IsNear, Grows, number_in}
use Rattle.dl_graph.specs.Named.{HasLiterals, line_in}
use Rattle.dl_names.proofs.NameLemmas.{Grows-trans, Grows-weaker, Grows-keeps, near_head, near_tail, ok_from}
use Rattle.dl_net.proofs.NetLemmas.{number_kept}
use Rattle.dl_graph.proofs.LineLemmas.{numbers_within}
use Rattle.dl_net.proofs.number.number_rule.Goals as goal

grown_by : (q : Literal) (body xs a b c : List Literal) → xs ≡ body → Grows (IsNear (q ∷ [])) a b → Grows (IsNear xs) b c → Grows (IsNear (q ∷ body)) a c
grown_by q body xs a b c is g h =
    Grows-trans (IsNear (q ∷ body)) a b c (Grows-weaker (IsNear (q ∷ [])) (IsNear (q ∷ body)) a b (λ r k. near_head q body r k) g)
    (Grows-weaker (IsNear xs) (IsNear (q ∷ body)) b c (λ r k. near_tail q body r (subst (λ (ys : List Literal). IsNear ys r) is k)) h)

pub returns-in_err-head-clause-grown : goal.returns-in_err-head-clause-grown
returns-in_err-head-clause-grown c =
    Grows-weaker (IsNear (c.args.rule.now.head ∷ [])) (IsNear (c.args.rule.now.head ∷ c.args.rule.now.body)) c.args.names.now.literals c.number_literal.new.names.literals
    (λ r h. near_head c.args.rule.now.head c.args.rule.now.body r h) c.number_literal.ensures.grown

pub returns-in_err-body-clause-grown : goal.returns-in_err-body-clause-grown
returns-in_err-body-clause-grown c =
    grown_by c.args.rule.now.head c.args.rule.now.body c.as_slice.result.now c.args.names.now.literals c.number_literal.new.names.literals
    c.number_literals.new.names.literals c.as_slice.ensures c.number_literal.ensures.grown c.number_literals.ensures.grown

pub returns-clause-grown : goal.returns-clause-grown
returns-clause-grown c =
    grown_by c.args.rule.now.head c.args.rule.now.body c.as_slice.result.now c.args.names.now.literals c.number_literal.new.names.literals
    c.number_literals.new.names.literals c.as_slice.ensures c.number_literal.ensures.grown c.number_literals.ensures.grown

pub returns-clause-there : goal.returns-clause-there
returns-clause-there c =
    let new : List Literal = c.number_literals.new.names.literals in
    ok_from c.entry_of.result (HasLiterals new c.args.rule.now) (
      Grows-keeps (IsNear c.as_slice.result.now) c.number_literal.new.names.literals new c.args.rule.now.head c.number_literals.ensures.grown c.in_ok-head.ensures.there,
      subst (λ (xs : List Literal). All (Contains new) xs) c.as_slice.ensures c.in_ok-body.ensures.there,
    )

pub returns-clause-line : goal.returns-clause-line
returns-clause-line c =
    let mid : List Literal = c.number_literal.new.names.literals in
    let new : List Literal = c.number_literals.new.names.literals in
    let head : c.in_ok-head.head ≡ number_in new c.args.rule.now.head =
    c.in_ok-head.ensures.number
    ∙ number_kept mid new c.number_literals.ensures.distinct (IsNear c.as_slice.result.now) c.number_literals.ensures.grown c.args.rule.now.head c.in_ok-head.ensures.there in
    let body : c.in_ok-body.body.items ≡ map (number_in new) c.args.rule.now.body =
    subst (λ (xs : List Literal). c.in_ok-body.body.items ≡ map (number_in new) xs) c.as_slice.ensures c.in_ok-body.ensures.numbers in
    IfOk-weaker c.entry_of.result (λ e. e ≡ record { kind = c.args.rule.now.kind; head = c.in_ok-head.head; body = c.in_ok-body.body.items })
    (λ e. e ≡ line_in new c.args.rule.now)
    (λ e is. is ∙ (λ i. record { kind = c.args.rule.now.kind; head = head i; body = body i })) c.entry_of.ensures

pub returns-in_err-head-clause-same : goal.returns-in_err-head-clause-same
returns-in_err-head-clause-same c = λ h. c.number_literal.ensures.same h.0

-- names that have the head and the body stay as they are
same_by : (a b c : Numbering) (head : Literal) (body xs : List Literal) → xs ≡ body → (Contains a.literals head → b ≡ a) → (All (Contains b.literals) xs → c ≡ b)
    → Contains a.literals head × All (Contains a.literals) body → c ≡ a
same_by a b c head body xs is first rest h =
    let before : b ≡ a = first h.0 in
    rest (subst (λ (n : Numbering). All (Contains n.literals) xs) (sym before) (subst (λ (ys : List Literal). All (Contains a.literals) ys) (sym is) h.1)) ∙ before

pub returns-in_err-body-clause-same : goal.returns-in_err-body-clause-same
returns-in_err-body-clause-same c =
    same_by c.args.names.now c.number_literal.new.names c.number_literals.new.names c.args.rule.now.head c.args.rule.now.body c.as_slice.result.now c.as_slice.ensures
    c.number_literal.ensures.same c.number_literals.ensures.same

pub returns-clause-same : goal.returns-clause-same
returns-clause-same c =
    same_by c.args.names.now c.number_literal.new.names c.number_literals.new.names c.args.rule.now.head c.args.rule.now.body c.as_slice.result.now c.as_slice.ensures
    c.number_literal.ensures.same c.number_literals.ensures.same

pub entry_of-requires : goal.entry_of-requires
entry_of-requires c =
    subst (λ (ns : List ℕ). All (λ n. n < c.len.result) ns) (sym c.in_ok-body.ensures.numbers)
    (numbers_within c.number_literals.new.names.literals c.len.result c.as_slice.result.now c.number_literals.ensures.distinct c.in_ok-body.ensures.there
    (omega (arith, c.len.ensures.len)))
