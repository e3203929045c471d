use Rattle.std.proofs.Common.{ℕ, ◌<◌, List, [], length, get_or, sym, ap, subst, ◌∙◌, map, arith}
use Rattle.std.specs.Prelude.{Contains, remove}
use Rattle.std.specs.Str.{bytes_eq}
use Rattle.std.proofs.lemmas.List.{get_or-map, length-map}
use Rattle.std.proofs.lemmas.Slice.Eq.{bytes_eq-Decides}
use Rattle.dl_base.specs.Paths.{IsDistinct}
use Rattle.dl_base.proofs.Filters.{filter_absent, remove_is_filter, map-remove}
use Rattle.dl_theory.specs.declared.rule.Rule.{Rule}
use Rattle.dl_theory.proofs.rules.drop_rule.Goals as goal

pub returns-in-None-clause-rules : goal.returns-in-None-clause-rules
returns-in-None-clause-rules c =
    sym (filter_absent (λ r. r.label) bytes_eq bytes_eq-Decides c.args.label.now c.args.rules.now.items
    (subst (λ (ls : List (List ℕ)). ¬ Contains ls c.args.label.now) c.requires.aligned (c.place_of.ensures.absent c.in-None.is)))

pub returns-in-Some-clause-rules : goal.returns-in-Some-clause-rules
returns-in-Some-clause-rules c =
    let rules : List Rule = c.args.rules.now.items in
    let at : ℕ = c.in-Some.at in
    let within : at < length rules = omega (arith, c.in-Some.ensures.within, ap length c.requires.aligned, length-map rules (λ (r : Rule). r.label)) in
    c.remove.ensures.items
    ∙ remove_is_filter (λ (r : Rule). r.label) bytes_eq bytes_eq-Decides c.args.label.now rules at c.remove.result
    (subst (λ (ls : List (List ℕ)). IsDistinct ls) c.requires.aligned c.requires.distinct) within
    (sym (get_or-map (λ (r : Rule). r.label) rules at c.remove.result [] within)
    ∙ ap (λ (ls : List (List ℕ)). get_or ls at []) (sym c.requires.aligned) ∙ c.in-Some.ensures.there)

pub returns-in-Some-clause-labels : goal.returns-in-Some-clause-labels
returns-in-Some-clause-labels c =
    c.shift_remove_index.ensures.keys
    ∙ ap (λ (ls : List (List ℕ)). remove ls c.in-Some.at) c.requires.aligned
    ∙ sym (map-remove (λ (r : Rule). r.label) c.args.rules.now.items c.in-Some.at)
    ∙ ap (λ (rs : List Rule). map (λ r. r.label) rs) (sym c.remove.ensures.items)
