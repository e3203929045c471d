use Rattle.std.proofs.Common.{◌≡◌, ◌<◌, ℕ, Option, None, List, [], ◌∷◌, ◌++◌, length, get_or, take, sym, ap, subst, ◌∙◌, arith}
use Rattle.std.specs.Prelude.{Contains}
use Rattle.dl_rules.specs.Lines.{Line}
use Rattle.dl_lists.proofs.LabelLemmas.{inserted_new}
use Rattle.dl_net.specs.Anew.{labels_there}
use Rattle.dl_net.proofs.Renewal.{label_if, labels_more, labels_all, label_new, no_label, rule_if}
use Rattle.dl_net.proofs.anew.labels_in_order.Goals.{then-is_there+in_ok-copy+in_ok-insert_label, else-is_there}
use Rattle.dl_net.proofs.anew.labels_in_order.Goals as goal

pub loop-number-preserved : goal.loop-number-preserved
loop-number-preserved c =
    let ks : List (List ℕ) = c.args.labels.now.labels in
    let lines : List (Option Line) = c.args.index.now.lines in
    let n : ℕ = c.loop-number.number in
    let o : Option Line = get_or lines n None in
    let front : List (List ℕ) = labels_there (take n ks) (take n lines) in
    let lt : n < length lines = omega (arith, c.loop-number-test.true, c.len-number-end.ensures) in
    let step : c.if-is_there.set.keys ≡ front ++ label_if (get_or ks n []) o = elim c.if-is_there.branch [
      | then-is_there+in_ok-copy+in_ok-insert_label w ↦
          let same : w.in_ok-copy.field-0 ≡ get_or ks n [] = w.in_ok-copy.ensures ∙ w.label.ensures in
          let here = rule_if o (sym c.is_there.ensures ∙ w.if-is_there.true) in
          let absent : ¬ Contains c.loop-number.set.keys w.in_ok-copy.field-0 = λ m.
          label_new ks lines c.requires.as_long c.requires.distinct n lt here.0 here.1
          (subst (λ (x : List ℕ). Contains front x) same
          (subst (λ (xs : List (List ℕ)). Contains xs w.in_ok-copy.field-0) c.loop-number.invariant m)) in
          ap (λ s. s.keys) w.set-is
          ∙ inserted_new c.loop-number.set.keys w.insert_label.new.labels.keys w.in_ok-copy.field-0 w.in_ok-insert_label.field-0
          w.in_ok-insert_label.ensures.keys w.in_ok-insert_label.ensures.new.0 absent
          ∙ (λ i. c.loop-number.invariant i ++ same i ∷ [])
          ∙ ap (λ (x : Option Line). front ++ label_if (get_or ks n []) x) (sym here.1)
      | else-is_there w ↦
          ap (λ s. s.keys) w.set-is ∙ c.loop-number.invariant ∙ sym (no_label front (get_or ks n []) o (sym c.is_there.ensures ∙ w.if-is_there.false))
    ] in
    step ∙ sym (labels_more ks lines c.requires.as_long n lt)

pub returns : goal.returns
returns c =
    c.loop-number.invariant
    ∙ labels_all c.args.labels.now.labels c.args.index.now.lines c.requires.as_long c.loop-number.number
    (omega (arith, c.loop-number-test.false, c.len-number-end.ensures))
