use Rattle.std.proofs.Common.{◌≡◌, ◌<◌, ◌≤◌, ◌++◌, ◌∷◌, [], ℕ, Bool, true, List, length, cond, take, refl, sym, ap, subst, ◌∙◌, arith, true≢false}
use Rattle.std.specs.Prelude.{Contains}
use Rattle.std.proofs.Math.Seq.{take-append_seam}
use Rattle.std.proofs.lemmas.List.{append-nil}
use Rattle.dl_lit.specs.declared.literal.Literal.{Literal}
use Rattle.dl_theory.specs.declared.rule.Rule.{Rule}
use Rattle.dl_theory.specs.declared.edit.Edit.TheVariants.{AddRule}
use Rattle.dl_theory.specs.Lists.{TheoryLists, labels}
use Rattle.dl_theory.specs.Edits.{IsAccepted, after_edit}
use Rattle.dl_graph.specs.Numbers.{NetLists}
use Rattle.dl_names.specs.Paired.{IsNear}
use Rattle.dl_net.specs.Loading.{LoadedLists, IsLoading, theory_in}
use Rattle.dl_net.specs.KeptNumbered.{lists_of}
use Rattle.dl_net.proofs.NumberedLemmas.{grown, grown_theory, grown_loading, labels_from, rules_len, new_rule, rule_theory, rule_loading}
use Rattle.dl_net.proofs.numbered.NumberedTheory.put_rule.Goals.{else-count-ge-LIMIT-via-then-count-ge-LIMIT+else-not-holds_label, else-count-ge-LIMIT-via-else-count-ge-LIMIT}
use Rattle.dl_net.proofs.numbered.NumberedTheory.put_rule.Goals as goal

pub returns-then-not-holds_label : goal.returns-then-not-holds_label
returns-then-not-holds_label c =
    let a : LoadedLists = lists_of c.self.inside in
    let r : Rule = c.args.rule.now in
    let same : theory_in a ≡ c.args.self.now.theory = ap (λ (v : NetLists). v.theory) c.self.view_is in
    let none : Contains (labels (theory_in a)) r.label → ⊥ =
    λ m. let on = c.holds_label.ensures.1 (subst (λ (ks : List (List ℕ)). Contains ks r.label) (labels_from a c.self.invariant) m) in
    let off = c.if-not-holds_label.true in cc in
    let many : 1000000 ≤ length (theory_in a).rules = omega (arith, c.len-count.ensures.len, c.if-count-ge-LIMIT.true, rules_len a c.self.invariant) in
    (subst (λ (U : TheoryLists). (Contains (labels U) r.label → ⊥) × (1000000 ≤ length U.rules)) same (none, many), refl)

pub returns-then-not-new : goal.returns-then-not-new
returns-then-not-new c =
    let a : LoadedLists = lists_of c.self.inside in
    let r : Rule = c.args.rule.now in
    let same : theory_in a ≡ c.args.self.now.theory = ap (λ (v : NetLists). v.theory) c.self.view_is in
    let there : Contains a.labels r.label = subst (λ (l : List ℕ). Contains a.labels l) c.in_ok-label.ensures (c.in_ok-new.ensures.new.0 c.if-not-new.true) in
    let stay : c.insert_label.new.labels.keys ≡ a.labels =
    c.in_ok-new.ensures.keys ∙ ap (λ (v : Bool). a.labels ++ cond v (c.in_ok-label.label ∷ []) []) c.if-not-new.true ∙ append-nil a.labels in (
      c.label_there.ensures c.args.self.now.theory r refl
          (subst (λ (T : TheoryLists). Contains (labels T) r.label) same
          (subst (λ (ks : List (List ℕ)). Contains ks r.label) (sym (labels_from a c.self.invariant)) there)),
      ap (λ (ks : List (List ℕ)). theory_in (record a { labels = ks })) stay ∙ same,
    )

-- the label is new, and there is room for a rule
accepted : (c : goal.In-Ok) → IsAccepted (theory_in (lists_of c.self.inside)) (AddRule c.args.rule.now)
accepted c =
    let a : LoadedLists = lists_of c.self.inside in
    let r : Rule = c.args.rule.now in
    let new : Contains a.labels r.label → ⊥ =
    λ m. true≢false (sym c.if-not-new.false ∙ c.in_ok-new.ensures.new.1 (subst (λ (l : List ℕ). Contains a.labels l) (sym c.in_ok-label.ensures) m)) in
    let few : length a.labels < 1000000 =
    elim c.else-count-ge-LIMIT.branch [
      | else-count-ge-LIMIT-via-then-count-ge-LIMIT+else-not-holds_label w ↦ absurd (new (w.holds_label.ensures.0 w.if-not-holds_label.false))
      | else-count-ge-LIMIT-via-else-count-ge-LIMIT w ↦ omega (arith, c.len-count.ensures.len, w.if-count-ge-LIMIT.false)
    ] in
    new_rule a c.self.invariant r new few

-- the labels with the new one
put_label : (ks ks' : List (List ℕ)) (new : Bool) (l label : List ℕ) → ks' ≡ ks ++ cond new (l ∷ []) [] → new ≡ true → l ≡ label → ks' ≡ ks ++ label ∷ []
put_label ks ks' new l label keys is same =
    keys ∙ ap (λ (v : Bool). ks ++ cond v (l ∷ []) []) is ∙ ap (λ (x : List ℕ). ks ++ x ∷ []) same

pub invariant_of-self-in-Ok : goal.invariant_of-self-in-Ok
invariant_of-self-in-Ok c =
    let a : LoadedLists = lists_of c.self.inside in
    let r : Rule = c.args.rule.now in
    let n = c.load_rule.ensures in
    let b : List Literal = c.load_rule.new.names.literals in
    rule_loading (grown a b a.marks) (grown_loading (IsNear (r.head ∷ r.body)) a b a.marks n.grown n.distinct (λ qs h. h) c.self.invariant) r n.distinct
    c.in-Ok.ensures.there c.insert_label.new.labels.keys c.load_rule.new.lines.items
    (put_label a.labels c.insert_label.new.labels.keys c.in_ok-new.new c.in_ok-label.label r.label c.in_ok-new.ensures.keys c.if-not-new.false c.in_ok-label.ensures)
    c.in-Ok.ensures.lines
    (subst (λ (T : TheoryLists). IsAccepted T (AddRule r))
    (sym (grown_theory (IsNear (r.head ∷ r.body)) a b a.marks n.grown n.distinct (λ qs h. h) c.self.invariant)) (accepted c))

pub returns-in-Ok : goal.returns-in-Ok
returns-in-Ok c =
    let a : LoadedLists = lists_of c.self.inside in
    let r : Rule = c.args.rule.now in
    let n = c.load_rule.ensures in
    let b : List Literal = c.load_rule.new.names.literals in
    let same : theory_in a ≡ c.args.self.now.theory = ap (λ (v : NetLists). v.theory) c.self.view_is in (
      subst (λ (T : TheoryLists). IsAccepted T (AddRule r)) same (accepted c),
      rule_theory (grown a b a.marks) (grown_loading (IsNear (r.head ∷ r.body)) a b a.marks n.grown n.distinct (λ qs h. h) c.self.invariant) r n.distinct
          c.in-Ok.ensures.there c.insert_label.new.labels.keys c.load_rule.new.lines.items
          (put_label a.labels c.insert_label.new.labels.keys c.in_ok-new.new c.in_ok-label.label r.label c.in_ok-new.ensures.keys c.if-not-new.false c.in_ok-label.ensures)
          c.in-Ok.ensures.lines
          ∙ ap (λ (T : TheoryLists). after_edit T (AddRule r))
          (grown_theory (IsNear (r.head ∷ r.body)) a b a.marks n.grown n.distinct (λ qs h. h) c.self.invariant ∙ same),
    )

-- the labels, from which the new one has gone
cut_label : (ks put cut : List (List ℕ)) (label : List ℕ) (count : ℕ) → put ≡ ks ++ label ∷ [] → cut ≡ take count put → count ≡ length ks → cut ≡ ks
cut_label ks put cut label count is kept many =
    kept ∙ ap (take count) is ∙ ap (λ (n : ℕ). take n (ks ++ label ∷ [])) many ∙ take-append_seam ks (label ∷ [])

stays : (c : goal.After-truncate) → c.truncate.new.self.keys ≡ c.self.inside.labels.keys
stays c =
    let ks : List (List ℕ) = c.self.inside.labels.keys in
    let label : List ℕ = c.args.rule.now.label in
    cut_label ks c.insert_label.new.labels.keys c.truncate.new.self.keys label c.len-count.result
    (put_label ks c.insert_label.new.labels.keys c.in_ok-new.new c.in_ok-label.label label c.in_ok-new.ensures.keys c.if-not-new.false c.in_ok-label.ensures)
    c.truncate.ensures.keys c.len-count.ensures.len

pub invariant_of-self-in-Err : goal.invariant_of-self-in-Err
invariant_of-self-in-Err c =
    let a : LoadedLists = lists_of c.self.inside in
    let r : Rule = c.args.rule.now in
    let n = c.load_rule.ensures in
    let b : List Literal = c.load_rule.new.names.literals in
    subst IsLoading (λ i. record (grown a b a.marks) { labels = sym (stays c) i; lines = sym c.in-Err.ensures.kept i })
    (grown_loading (IsNear (r.head ∷ r.body)) a b a.marks n.grown n.distinct (λ qs h. h) c.self.invariant)

pub returns-in-Err : goal.returns-in-Err
returns-in-Err c =
    let a : LoadedLists = lists_of c.self.inside in
    let r : Rule = c.args.rule.now in
    let n = c.load_rule.ensures in
    let b : List Literal = c.load_rule.new.names.literals in (
      tt,
      (λ i. theory_in (record (grown a b a.marks) { labels = stays c i; lines = c.in-Err.ensures.kept i }))
          ∙ grown_theory (IsNear (r.head ∷ r.body)) a b a.marks n.grown n.distinct (λ qs h. h) c.self.invariant
          ∙ ap (λ (v : NetLists). v.theory) c.self.view_is,
    )
