use Rattle.std.proofs.Common.{◌≡◌, ℕ, Bool, true, false, cond, List, [], ◌∷◌, ◌++◌, map-id, take, get_or, refl, sym, ap, subst, ◌∙◌}
use Rattle.std.specs.Prelude.{Contains}
use Rattle.std.specs.Str.{bytes_eq}
use Rattle.std.proofs.lemmas.List.{take_more}
use Rattle.std.proofs.lemmas.Slice.Eq.{bytes_eq-Decides}
use Rattle.dl_base.specs.Paths.{IsDistinct}
use Rattle.dl_base.proofs.Distinct.{distinct_front}
use Rattle.dl_theory.proofs.Places.{keys_distinct}
use Rattle.dl_theory.proofs.labels.copy_labels.Goals as goal

-- what is new goes last
new_last : (new : Bool) (label : List ℕ) → ¬ (new ≡ false) → cond new (label ∷ []) [] ≡ label ∷ []
new_last true label n = refl
new_last false label n = absurd (n refl)

pub loop-label-preserved : goal.loop-label-preserved
loop-label-preserved c =
    let labels : List (List ℕ) = c.as_slice-label-items.result.now in
    let at : ℕ = c.loop-label.label-index in
    let label : List ℕ = c.in_ok-copy.field-0 in
    let is : label ≡ get_or labels at c.label-item.result = c.in_ok-copy.ensures ∙ c.label-item.is in
    let distinct : IsDistinct labels =
    subst (λ (ls : List (List ℕ)). IsDistinct ls) (sym c.as_slice-label-items.ensures.keys)
    (keys_distinct bytes_eq bytes_eq-Decides c.args.labels.now.keys c.as_slice-label-items.ensures.unique) in
    let new : ¬ Contains (take at labels) label = λ m.
    distinct_front (λ (x : List ℕ). x) labels at c.label-item.result (subst (λ (ls : List (List ℕ)). IsDistinct ls) (sym (map-id labels)) distinct)
    c.loop-label-test.true
    (subst (λ (ls : List (List ℕ)). Contains ls (get_or labels at c.label-item.result)) (sym (map-id (take at labels)))
    (subst (λ (l : List ℕ). Contains (take at labels) l) is m)) in
    c.in_ok-insert_label.ensures.keys
    ∙ ap (λ ls. c.loop-label.copy.keys ++ ls)
    (new_last c.in_ok-insert_label.field-0 label
    (λ old. new (subst (λ (ls : List (List ℕ)). Contains ls label) c.loop-label.invariant (c.in_ok-insert_label.ensures.new.0 old))))
    ∙ ap (λ ls. ls ++ label ∷ []) c.loop-label.invariant
    ∙ ap (λ l. take at labels ++ l ∷ []) is
    ∙ sym (take_more labels at c.label-item.result c.loop-label-test.true)
