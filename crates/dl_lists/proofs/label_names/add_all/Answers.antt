use Rattle.std.proofs.Common.{ℕ, List, [], ◌∷◌, ◌++◌, take, ap, sym, subst, ◌∙◌}
use Rattle.std.specs.Prelude.{Contains}
use Rattle.std.proofs.lemmas.List.{take_more, append_assoc}
use Rattle.dl_base.specs.Paths.{IsDistinct}
use Rattle.dl_lists.proofs.LabelLemmas.{inserted_new}
use Rattle.dl_lists.proofs.NameLemmas.{next_behind}
use Rattle.dl_lists.proofs.label_names.add_all.Goals as goal

pub loop-name-preserved : goal.loop-name-preserved
loop-name-preserved c =
    let ks : List (List ℕ) = c.args.names.now.keys in
    let xs : List (List ℕ) = c.as_slice-name-items.result.now in
    let i : ℕ = c.loop-name.name-index in
    let x : List ℕ = c.name-item.result in
    let new : ¬ Contains (ks ++ take i xs) x =
    next_behind ks xs i x (subst (λ (l : List (List ℕ)). IsDistinct (ks ++ l)) (sym c.as_slice-name-items.ensures.keys) c.requires) c.loop-name-test.true
    c.name-item.is in
    let absent : ¬ Contains c.loop-name.names.keys c.in_ok-copy.field-0 = λ m.
    new (subst (λ (l : List ℕ). Contains (ks ++ take i xs) l) c.in_ok-copy.ensures
    (subst (λ (l : List (List ℕ)). Contains l c.in_ok-copy.field-0) c.loop-name.invariant m)) in
    inserted_new c.loop-name.names.keys c.insert_label.new.labels.keys c.in_ok-copy.field-0 c.in_ok-insert_label.field-0
    c.in_ok-insert_label.ensures.keys c.in_ok-insert_label.ensures.new.0 absent
    ∙ (λ j. c.loop-name.invariant j ++ c.in_ok-copy.ensures j ∷ [])
    ∙ append_assoc ks (take i xs) (x ∷ [])
    ∙ ap (λ (ls : List (List ℕ)). ks ++ ls) (ap (λ (l : List ℕ). take i xs ++ l ∷ []) c.name-item.is ∙ sym (take_more xs i x c.loop-name-test.true))
