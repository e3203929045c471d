use Rattle.std.proofs.Common.{ℕ, ◌<◌, ◌≤◌, List, length, map, subst, sym}
use Rattle.std.specs.Prelude.{Contains}
use Rattle.std.proofs.lemmas.Option.{IfSome_then}
use Rattle.std.proofs.lemmas.List.Elements.{All-contains}
use Rattle.dl_lists.specs.Last.{IsLast}
use Rattle.dl_lists.specs.Labels.{LabelLists}
use Rattle.dl_lists.specs.Names.{name_at}
use Rattle.dl_lists.proofs.LastLemmas.{get_contains}
use Rattle.dl_lists.proofs.LabelLemmas.{names_enough, label_absent, label_past, last_label, if_none_more}
use Rattle.dl_lists.proofs.rule_labels.RuleLabels.find.Goals as goal

pub returns-in-None-clause-absent : goal.returns-in-None-clause-absent
returns-in-None-clause-absent c = λ m.
    label_absent c.self.inside.names.keys c.self.inside.entries.entries c.self.inside.entries.count c.self.invariant.entered.within
    (names_enough c.self.inside.entries c.self.inside.names c.self.inside.ready c.self.invariant.room)
    c.args.label.now c.in-None.ensures.absent
    (subst (λ (v : LabelLists). Contains v.labels c.args.label.now) (sym c.self.view_is) m)

pub returns-in-Some-clause-there : goal.returns-in-Some-clause-there
returns-in-Some-clause-there c =
    let names : List (List ℕ) = c.self.inside.names.keys in
    let es : List ℕ = c.self.inside.entries.entries in
    let count : ℕ = c.self.inside.entries.count in
    let few : count ≤ length names = names_enough c.self.inside.entries c.self.inside.names c.self.inside.ready c.self.invariant.room in
    IfSome_then c.last.result c.last.ensures.there (λ n last.
    subst (λ (v : LabelLists). IsLast v.labels c.args.label.now n) c.self.view_is
    (subst (λ (l : List ℕ). IsLast (map (name_at names) es) l n) c.in-Some.ensures.there
    (last_label names es count c.self.invariant.entered.within few c.in-Some.ensures.distinct c.in-Some.entry n
    (All-contains (λ e. e < count) es c.in-Some.entry c.self.invariant.entered.within (get_contains es n c.in-Some.entry last.has)) last)))

pub returns-in-Some-clause-absent : goal.returns-in-Some-clause-absent
returns-in-Some-clause-absent c =
    let names : List (List ℕ) = c.self.inside.names.keys in
    let es : List ℕ = c.self.inside.entries.entries in
    let count : ℕ = c.self.inside.entries.count in
    let few : count ≤ length names = names_enough c.self.inside.entries c.self.inside.names c.self.inside.ready c.self.invariant.room in
    if_none_more c.last.result c.last.ensures.absent (λ past m.
    label_past names es count c.self.invariant.entered.within few c.in-Some.ensures.distinct c.in-Some.entry c.args.label.now past c.in-Some.ensures.within
    c.in-Some.ensures.there (subst (λ (v : LabelLists). Contains v.labels c.args.label.now) (sym c.self.view_is) m))
