use Rattle.std.proofs.Common.{◌≡◌, ℕ, ◌+◌, cond, List, [], ◌∷◌, ◌++◌, length, map, ap, subst, sym, ◌∙◌, arith}
use Rattle.std.proofs.lemmas.List.{length_push}
use Rattle.dl_lists.specs.declared.rule_labels.Ready.{Ready}
use Rattle.dl_lists.specs.Labels.{LabelLists}
use Rattle.dl_lists.specs.Names.{name_at}
use Rattle.dl_lists.specs.KeptLabels.{HasRoom}
use Rattle.dl_lists.proofs.EntryLemmas.{entered_new}
use Rattle.dl_lists.proofs.LabelLemmas.{entered_is, none_prepared, labels_new, label_new}
use Rattle.dl_lists.proofs.rule_labels.RuleLabels.add.Goals as goal

pub invariant_of-self-then-new : goal.invariant_of-self-then-new
invariant_of-self-then-new c =
    let names : List (List ℕ) = c.self.inside.names.keys in
    let es : List ℕ = c.self.inside.entries.entries in
    let count : ℕ = c.self.inside.entries.count in
    let none = none_prepared c.self.inside c.self.invariant (ap (λ (v : LabelLists). v.ready) c.self.view_is ∙ c.requires) in
    let keys : c.insert.new.self.keys ≡ names ++ c.args.label ∷ [] =
    c.in_ok-new.ensures.keys ∙ ap (λ b. names ++ cond b (c.args.label ∷ []) []) c.if-new.true in
    record {
      entered = entered_is _ _ _ _ (entered_new es count c.self.invariant.entered)
          (c.push_new.ensures.entries ∙ (λ i. c.in_ok-reserve.ensures.entries i ++ c.in_ok-reserve.ensures.count i ∷ []))
          (c.push_new.ensures.count ∙ ap (λ (n : ℕ). n + 1) c.in_ok-reserve.ensures.count);
      room = subst (λ (r : Ready). HasRoom c.push_new.new.self c.insert.new.self r) (sym none.0)
          (omega (
            arith,
            ap (λ (l : List (List ℕ)). length l) keys,
            length_push names c.args.label,
            none.1,
            c.push_new.ensures.count,
            c.in_ok-reserve.ensures.count,
          ));
    }

pub returns-then-new-clause-new : goal.returns-then-new-clause-new
returns-then-new-clause-new c =
    label_new c.self.inside.names.keys c.self.inside.entries.entries c.self.inside.entries.count c.self.invariant.entered
    (none_prepared c.self.inside c.self.invariant (ap (λ (v : LabelLists). v.ready) c.self.view_is ∙ c.requires)).1 c.args.label c.in_ok-new.new
    c.args.self.now.labels (ap (λ (v : LabelLists). v.labels) c.self.view_is) c.in_ok-new.ensures.new

pub returns-else-new-clause-new : goal.returns-else-new-clause-new
returns-else-new-clause-new c =
    label_new c.self.inside.names.keys c.self.inside.entries.entries c.self.inside.entries.count c.self.invariant.entered
    (none_prepared c.self.inside c.self.invariant (ap (λ (v : LabelLists). v.ready) c.self.view_is ∙ c.requires)).1 c.args.label c.in_ok-new.new
    c.args.self.now.labels (ap (λ (v : LabelLists). v.labels) c.self.view_is) c.in_ok-new.ensures.new

pub returns-then-new-clause-labels : goal.returns-then-new-clause-labels
returns-then-new-clause-labels c =
    let names : List (List ℕ) = c.self.inside.names.keys in
    let es : List ℕ = c.self.inside.entries.entries in
    let count : ℕ = c.self.inside.entries.count in
    let long : length names ≡ count =
    (none_prepared c.self.inside c.self.invariant (ap (λ (v : LabelLists). v.ready) c.self.view_is ∙ c.requires)).1 in
    let keys : c.insert.new.self.keys ≡ names ++ c.args.label ∷ [] =
    c.in_ok-new.ensures.keys ∙ ap (λ b. names ++ cond b (c.args.label ∷ []) []) c.if-new.true in
    let entries : c.push_new.new.self.entries ≡ es ++ count ∷ [] =
    c.push_new.ensures.entries ∙ (λ i. c.in_ok-reserve.ensures.entries i ++ c.in_ok-reserve.ensures.count i ∷ []) in
    (λ i. map (name_at (keys i)) (entries i))
    ∙ labels_new names es count c.self.invariant.entered long c.args.label
    ∙ ap (λ (v : LabelLists). v.labels ++ c.args.label ∷ []) c.self.view_is
    ∙ ap (λ b. c.args.self.now.labels ++ cond b (c.args.label ∷ []) []) (sym c.if-new.true)
