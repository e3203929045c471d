use Rattle.std.proofs.Common.{◌≡◌, ◌<◌, ◌≤◌, ◌++◌, ◌∷◌, [], ℕ, Bool, true, false, List, length, get_or, set, refl, sym, ap, subst, subst₂, ◌∙◌, arith}
use Rattle.std.specs.Prelude.{Contains}
use Rattle.dl_lit.specs.declared.literal.Literal.{Literal}
use Rattle.dl_theory.specs.declared.edit.Edit.TheVariants.{AddFact}
use Rattle.dl_theory.specs.Lists.{TheoryLists}
use Rattle.dl_theory.specs.Edits.{IsAccepted, after_edit}
use Rattle.dl_graph.specs.Numbers.{NetLists}
use Rattle.dl_names.specs.Paired.{IsNear}
use Rattle.dl_names.proofs.NameLemmas.{number_within}
use Rattle.dl_net.specs.Loading.{LoadedLists, IsLoading, theory_in}
use Rattle.dl_net.specs.KeptNumbered.{lists_of}
use Rattle.dl_net.proofs.NumberedLemmas.{grown, grown_theory, grown_loading, facts_named, facts_len, marked_fact, new_fact, fact_theory, fact_loading, memory_stops}
use Rattle.dl_net.proofs.numbered.NumberedTheory.put_fact.Goals.{else-len-ge-LIMIT-via-then-len-ge-LIMIT+else-not-holds_fact, else-len-ge-LIMIT-via-else-len-ge-LIMIT}
use Rattle.dl_net.proofs.numbered.NumberedTheory.put_fact.Goals as goal

pub returns-then-not-holds_fact : goal.returns-then-not-holds_fact
returns-then-not-holds_fact c =
    let a : LoadedLists = lists_of c.self.inside in
    let h = c.self.invariant in
    let same : theory_in a ≡ c.args.self.now.theory = ap (λ (v : NetLists). v.theory) c.self.view_is in
    let none : Contains (theory_in a).facts c.args.fact.now → ⊥ =
    λ m. let on = (c.holds_fact.ensures (theory_in a).facts (facts_named a h) h.marks).1 m in
    let off = c.if-not-holds_fact.true in cc in
    let many : 1000000 ≤ length (theory_in a).facts = omega (arith, c.len.ensures, c.if-len-ge-LIMIT.true, facts_len a h) in
    (subst (λ (U : TheoryLists). (Contains U.facts c.args.fact.now → ⊥) × (1000000 ≤ length U.facts)) same (none, many), refl)

pub invariant_of-self : goal.invariant_of-self
invariant_of-self c =
    let n = c.number_fact.ensures in
    grown_loading (IsNear (c.args.fact.now ∷ [])) (lists_of c.self.inside) c.number_fact.new.names.literals c.number_fact.new.marks.items n.grown n.distinct n.kept
    c.self.invariant

pub returns-in_err-number : goal.returns-in_err-number
returns-in_err-number c =
    let n = c.number_fact.ensures in
    let a : LoadedLists = lists_of c.self.inside in
    let b : List Literal = c.number_fact.new.names.literals in
    let marks : List Bool = c.number_fact.new.marks.items in
    memory_stops c.args.self.now.theory (theory_in (grown a b marks)) (AddFact c.args.fact.now) c.from_residual.result c.from_residual.ensures.1
    (grown_theory (IsNear (c.args.fact.now ∷ [])) a b marks n.grown n.distinct n.kept c.self.invariant ∙ ap (λ (v : NetLists). v.theory) c.self.view_is)

pub invariant_of-self-then-is_marked : goal.invariant_of-self-then-is_marked
invariant_of-self-then-is_marked c =
    let n = c.number_fact.ensures in
    grown_loading (IsNear (c.args.fact.now ∷ [])) (lists_of c.self.inside) c.number_fact.new.names.literals c.number_fact.new.marks.items n.grown n.distinct n.kept
    c.self.invariant

pub returns-then-is_marked : goal.returns-then-is_marked
returns-then-is_marked c =
    let n = c.number_fact.ensures in
    let a : LoadedLists = lists_of c.self.inside in
    let b : List Literal = c.number_fact.new.names.literals in
    let marks : List Bool = c.number_fact.new.marks.items in
    let P : Literal → Type 0 = IsNear (c.args.fact.now ∷ []) in
    let same : theory_in (grown a b marks) ≡ c.args.self.now.theory =
    grown_theory P a b marks n.grown n.distinct n.kept c.self.invariant ∙ ap (λ (v : NetLists). v.theory) c.self.view_is in
    let there : Contains (theory_in (grown a b marks)).facts c.args.fact.now =
    (marked_fact (grown a b marks) (grown_loading P a b marks n.grown n.distinct n.kept c.self.invariant) n.distinct c.args.fact.now c.in_ok-number.ensures.there
    c.in_ok-number.number c.in_ok-number.ensures.number).0 (sym c.is_marked.ensures ∙ c.if-is_marked.true) in
    (subst (λ (T : TheoryLists). Contains T.facts c.args.fact.now) same there, same)

pub invariant_of-self-in_err-reserve : goal.invariant_of-self-in_err-reserve
invariant_of-self-in_err-reserve c =
    let n = c.number_fact.ensures in
    let a : LoadedLists = lists_of c.self.inside in
    let b : List Literal = c.number_fact.new.names.literals in
    let marks : List Bool = c.number_fact.new.marks.items in
    subst (λ (ns : List ℕ). IsLoading (record (grown a b marks) { order = ns })) (sym c.reserve.ensures.items)
    (grown_loading (IsNear (c.args.fact.now ∷ [])) a b marks n.grown n.distinct n.kept c.self.invariant)

pub returns-in_err-reserve : goal.returns-in_err-reserve
returns-in_err-reserve c =
    let n = c.number_fact.ensures in
    let a : LoadedLists = lists_of c.self.inside in
    let b : List Literal = c.number_fact.new.names.literals in
    let marks : List Bool = c.number_fact.new.marks.items in
    memory_stops c.args.self.now.theory (theory_in (record (grown a b marks) { order = c.reserve.new.self.items })) (AddFact c.args.fact.now)
    c.from_residual-in_err-reserve.result c.from_residual-in_err-reserve.ensures.1
    (ap (λ (ns : List ℕ). theory_in (record (grown a b marks) { order = ns })) c.reserve.ensures.items
    ∙ grown_theory (IsNear (c.args.fact.now ∷ [])) a b marks n.grown n.distinct n.kept c.self.invariant
    ∙ ap (λ (v : NetLists). v.theory) c.self.view_is)

pub own-requires-clause-within : goal.own-requires-clause-within
own-requires-clause-within c =
    let at = number_within c.number_fact.new.names.literals c.args.fact.now c.number_fact.ensures.distinct c.in_ok-number.ensures.there in
    omega (arith, at.0, c.in_ok-number.ensures.number, c.in_ok-number.ensures.room)

pub invariant_of-self-in_err-own : goal.invariant_of-self-in_err-own
invariant_of-self-in_err-own c =
    let n = c.number_fact.ensures in
    let a : LoadedLists = lists_of c.self.inside in
    let b : List Literal = c.number_fact.new.names.literals in
    let marks : List Bool = c.number_fact.new.marks.items in
    subst₂ (λ (ns : List ℕ) (ms : List Bool). IsLoading (record (grown a b ms) { order = ns })) (sym c.reserve.ensures.items) (sym c.own.ensures.items)
    (grown_loading (IsNear (c.args.fact.now ∷ [])) a b marks n.grown n.distinct n.kept c.self.invariant)

pub returns-in_err-own : goal.returns-in_err-own
returns-in_err-own c =
    let n = c.number_fact.ensures in
    let a : LoadedLists = lists_of c.self.inside in
    let b : List Literal = c.number_fact.new.names.literals in
    let marks : List Bool = c.number_fact.new.marks.items in
    memory_stops c.args.self.now.theory (theory_in (record (grown a b c.own.new.self.items) { order = c.reserve.new.self.items })) (AddFact c.args.fact.now)
    c.from_residual-in_err-own.result c.from_residual-in_err-own.ensures.1
    ((λ i. theory_in (record (grown a b (c.own.ensures.items i)) { order = c.reserve.ensures.items i }))
    ∙ grown_theory (IsNear (c.args.fact.now ∷ [])) a b marks n.grown n.distinct n.kept c.self.invariant
    ∙ ap (λ (v : NetLists). v.theory) c.self.view_is)

-- the literal is no fact, and there is room for one
accepted : (c : goal.After-put-off) → IsAccepted (theory_in (grown (lists_of c.self.inside) c.number_fact.new.names.literals c.number_fact.new.marks.items)) (AddFact c.args.fact.now)
accepted c =
    let n = c.number_fact.ensures in
    let h = c.self.invariant in
    let a : LoadedLists = lists_of c.self.inside in
    let b : List Literal = c.number_fact.new.names.literals in
    let marks : List Bool = c.number_fact.new.marks.items in
    let P : Literal → Type 0 = IsNear (c.args.fact.now ∷ []) in
    let mid : IsLoading (grown a b marks) = grown_loading P a b marks n.grown n.distinct n.kept h in
    let off : get_or marks c.in_ok-number.number false ≡ false = sym c.is_marked.ensures ∙ c.if-is_marked.false in
    let few : length a.order < 1000000 =
    elim c.else-len-ge-LIMIT.branch [
      | else-len-ge-LIMIT-via-then-len-ge-LIMIT+else-not-holds_fact w ↦
          let there : Contains (theory_in a).facts c.args.fact.now =
          (w.holds_fact.ensures (theory_in a).facts (facts_named a h) h.marks).0 w.if-not-holds_fact.false in
          let on : get_or marks c.in_ok-number.number false ≡ true =
          (marked_fact (grown a b marks) mid n.distinct c.args.fact.now c.in_ok-number.ensures.there c.in_ok-number.number c.in_ok-number.ensures.number).1
          (subst (λ (T : TheoryLists). Contains T.facts c.args.fact.now) (sym (grown_theory P a b marks n.grown n.distinct n.kept h)) there) in
          cc
      | else-len-ge-LIMIT-via-else-len-ge-LIMIT w ↦ omega (arith, c.len.ensures, w.if-len-ge-LIMIT.false)
    ] in
    new_fact (grown a b marks) mid n.distinct c.args.fact.now c.in_ok-number.ensures.there c.in_ok-number.number c.in_ok-number.ensures.number off few

pub invariant_of-self-2 : goal.invariant_of-self-2
invariant_of-self-2 c =
    let n = c.number_fact.ensures in
    let a : LoadedLists = lists_of c.self.inside in
    let b : List Literal = c.number_fact.new.names.literals in
    let marks : List Bool = c.number_fact.new.marks.items in
    fact_loading (grown a b marks) (grown_loading (IsNear (c.args.fact.now ∷ [])) a b marks n.grown n.distinct n.kept c.self.invariant) n.distinct
    c.args.fact.now c.in_ok-number.ensures.there c.in_ok-number.number c.in_ok-number.ensures.number c.push.new.self.items c.put-off.new.self.items
    (c.push.ensures.items ∙ ap (λ (ns : List ℕ). ns ++ c.in_ok-number.number ∷ []) c.reserve.ensures.items) (c.put-off.ensures.items ∙ ap (λ (ms : List Bool). set ms c.in_ok-number.number true) c.own.ensures.items) c.in_ok-number.ensures.room
    (accepted c)

pub returns : goal.returns
returns c =
    let n = c.number_fact.ensures in
    let a : LoadedLists = lists_of c.self.inside in
    let b : List Literal = c.number_fact.new.names.literals in
    let marks : List Bool = c.number_fact.new.marks.items in
    let P : Literal → Type 0 = IsNear (c.args.fact.now ∷ []) in
    let same : theory_in (grown a b marks) ≡ c.args.self.now.theory =
    grown_theory P a b marks n.grown n.distinct n.kept c.self.invariant ∙ ap (λ (v : NetLists). v.theory) c.self.view_is in (
      subst (λ (T : TheoryLists). IsAccepted T (AddFact c.args.fact.now)) same (accepted c),
      fact_theory (grown a b marks) (grown_loading P a b marks n.grown n.distinct n.kept c.self.invariant) n.distinct
          c.args.fact.now c.in_ok-number.ensures.there c.in_ok-number.number c.in_ok-number.ensures.number c.push.new.self.items c.put-off.new.self.items
          (c.push.ensures.items ∙ ap (λ (ns : List ℕ). ns ++ c.in_ok-number.number ∷ []) c.reserve.ensures.items) (c.put-off.ensures.items ∙ ap (λ (ms : List Bool). set ms c.in_ok-number.number true) c.own.ensures.items)
          ∙ ap (λ (T : TheoryLists). after_edit T (AddFact c.args.fact.now)) same,
    )
