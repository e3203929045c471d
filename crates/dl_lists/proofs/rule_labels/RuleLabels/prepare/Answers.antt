use Rattle.std.proofs.Common.{◌≡◌, ℕ, Some, List, [], ◌∷◌, ◌++◌, length, map, ap, subst, sym, ◌∙◌, arith}
use Rattle.std.specs.Prelude.{Contains}
use Rattle.std.proofs.lemmas.List.{get_or_push}
use Rattle.dl_lists.specs.Labels.{LabelLists}
use Rattle.dl_lists.specs.Names.{name_at}
use Rattle.dl_lists.proofs.LabelLemmas.{none_prepared, inserted_new, labels_more}
use Rattle.dl_lists.proofs.rule_labels.RuleLabels.prepare.Goals as goal

-- a label that no number has goes last among the names
keys : (c : goal.After-self-in-None-1) → c.insert.new.self.keys ≡ c.self.inside.names.keys ++ c.in_ok-label-in-None.label ∷ []
keys c =
    let names : List (List ℕ) = c.self.inside.names.keys in
    let label : List ℕ = c.in_ok-label-in-None.label in
    let absent : ¬ Contains names label = subst (λ (l : List ℕ). ¬ Contains names l) (sym c.in_ok-label-in-None.ensures) c.in-None.ensures.absent in
    inserted_new names c.insert.new.self.keys label c.in_ok-insert-in-None.field-0 c.in_ok-insert-in-None.ensures.keys
    c.in_ok-insert-in-None.ensures.new.0 absent

pub returns-in_ok-insert-in-None-clause-labels : goal.returns-in_ok-insert-in-None-clause-labels
returns-in_ok-insert-in-None-clause-labels c =
    let names : List (List ℕ) = c.self.inside.names.keys in
    let es : List ℕ = c.self.inside.entries.entries in
    let count : ℕ = c.self.inside.entries.count in
    let long : length names ≡ count =
    (none_prepared c.self.inside c.self.invariant (ap (λ (v : LabelLists). v.ready) c.self.view_is ∙ c.requires)).1 in
    (λ i. map (name_at (keys c i)) (c.in_ok-reserve-in-None.ensures.entries i))
    ∙ labels_more names es count c.self.invariant.entered.within (omega (arith, long)) (c.in_ok-label-in-None.label ∷ [])
    ∙ ap (λ (v : LabelLists). v.labels) c.self.view_is

pub returns-in_ok-insert-in-None-clause-ready : goal.returns-in_ok-insert-in-None-clause-ready
returns-in_ok-insert-in-None-clause-ready c =
    let names : List (List ℕ) = c.self.inside.names.keys in
    let count : ℕ = c.self.inside.entries.count in
    let long : length names ≡ count =
    (none_prepared c.self.inside c.self.invariant (ap (λ (v : LabelLists). v.ready) c.self.view_is ∙ c.requires)).1 in
    ap Some ((λ i. name_at (keys c i) (c.in_ok-reserve-in-None.ensures.count i)) ∙ get_or_push names c.in_ok-label-in-None.label [] count long
    ∙ c.in_ok-label-in-None.ensures)
