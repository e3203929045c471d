use Rattle.std.proofs.Common.{◌≡◌, ℕ, ◌≤◌, List, length, take, map, ap, ◌∙◌, arith}
use Rattle.std.proofs.lemmas.List.{length-take-le}
use Rattle.dl_lists.specs.Labels.{LabelLists}
use Rattle.dl_lists.specs.Names.{name_at}
use Rattle.dl_lists.proofs.LabelLemmas.{names_enough, names_cut, labels_cut}
use Rattle.dl_lists.proofs.rule_labels.RuleLabels.forget.Goals as goal

pub truncate-requires : goal.truncate-requires
truncate-requires c =
    omega (arith, names_cut c.self.inside.entries c.self.inside.names c.self.inside.ready c.self.invariant.room, c.count-count.ensures)

pub invariant_of-self : goal.invariant_of-self
invariant_of-self c =
    let names : List (List ℕ) = c.self.inside.names.keys in
    let count : ℕ = c.self.inside.entries.count in
    let few : count ≤ length names = names_enough c.self.inside.entries c.self.inside.names c.self.inside.ready c.self.invariant.room in
    let keys : c.truncate.new.self.keys ≡ take count names = c.truncate.ensures ∙ ap (λ (n : ℕ). take n names) c.count-count.ensures in
    record {
      entered = c.self.invariant.entered;
      room = ap (λ (l : List (List ℕ)). length l) keys ∙ length-take-le count names few;
    }

pub returns-clause-labels : goal.returns-clause-labels
returns-clause-labels c =
    let names : List (List ℕ) = c.self.inside.names.keys in
    let es : List ℕ = c.self.inside.entries.entries in
    let count : ℕ = c.self.inside.entries.count in
    let few : count ≤ length names = names_enough c.self.inside.entries c.self.inside.names c.self.inside.ready c.self.invariant.room in
    let keys : c.truncate.new.self.keys ≡ take count names = c.truncate.ensures ∙ ap (λ (n : ℕ). take n names) c.count-count.ensures in
    ap (λ (l : List (List ℕ)). map (name_at l) es) keys ∙ labels_cut names es count c.self.invariant.entered.within few
    ∙ ap (λ (v : LabelLists). v.labels) c.self.view_is
