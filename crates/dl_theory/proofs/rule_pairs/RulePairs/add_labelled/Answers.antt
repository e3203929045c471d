use Rattle.std.proofs.Common.{◌≡◌, ℕ, List, Ok, Err, length, map, rules, sym, ap, subst, ◌∙◌}
use Rattle.std.specs.Prelude.{All}
use Rattle.std.specs.Str.{bytes_eq}
use Rattle.std.proofs.lemmas.Result.{err_from_is_err_and}
use Rattle.std.proofs.lemmas.Slice.Eq.{bytes_eq-Decides}
use Rattle.dl_sup.specs.declared.link.Link.{Link}
use Rattle.dl_theory.specs.declared.edit.PairsStop.TheVariants.{Refused}
use Rattle.dl_theory.specs.Pairs.{named, IsWithin}
use Rattle.dl_theory.proofs.Additions.{answer_of, numbered_outcome}
use Rattle.dl_theory.proofs.Places.{keys_distinct}
use Rattle.dl_theory.proofs.rule_pairs.RulePairs.add_labelled.Goals as goal

pub returns-in_err-add_within_limit-clause-added : goal.returns-in_err-add_within_limit-clause-added
returns-in_err-add_within_limit-clause-added c = λ T h l e.
    let names : List (List ℕ) = c.args.labels.now.keys in
    let p = err_from_is_err_and c.from_residual-in_err-add_within_limit.result c.from_residual-in_err-add_within_limit.ensures.1 in
    let same : p.0 ≡ c.in_err-add_within_limit.field-0.0 = p.2 in
    numbered_outcome T names c.as_slice-items.result.now c.self.inside.links.items c.add_within_limit.new.links.items c.as_slice.result.now c.in_ok-links.links.items
    c.args.pairs.now c.in_ok-links.missing c.add_within_limit.result c.from_residual-in_err-add_within_limit.result l (e ∙ ap (map (named names)) (sym c.self.view_is))
    (keys_distinct bytes_eq bytes_eq-Decides names c.as_slice-items.ensures.unique)
    (subst (λ (ls : List Link). All (IsWithin names) ls) (sym c.self.view_is) c.requires.within)
    c.as_slice-items.ensures.keys c.as_slice.ensures.value c.in_ok-links.ensures.within c.in_ok-links.ensures.named c.in_ok-links.ensures.front
    c.add_within_limit.ensures.within c.add_within_limit.ensures.few c.add_within_limit.ensures.outcome
    (p.1 ∙ ap Err same ∙ ap (λ done. answer_of done c.in_ok-links.missing (length c.in_ok-links.links.items)) (sym c.in_err-add_within_limit.was))

pub returns-in-None-clause-added : goal.returns-in-None-clause-added
returns-in-None-clause-added c = λ T h l e.
    let names : List (List ℕ) = c.args.labels.now.keys in
    numbered_outcome T names c.as_slice-items.result.now c.self.inside.links.items c.add_within_limit.new.links.items c.as_slice.result.now c.in_ok-links.links.items
    c.args.pairs.now c.in_ok-links.missing c.add_within_limit.result (Ok tt) l (e ∙ ap (map (named names)) (sym c.self.view_is))
    (keys_distinct bytes_eq bytes_eq-Decides names c.as_slice-items.ensures.unique)
    (subst (λ (ls : List Link). All (IsWithin names) ls) (sym c.self.view_is) c.requires.within)
    c.as_slice-items.ensures.keys c.as_slice.ensures.value c.in_ok-links.ensures.within c.in_ok-links.ensures.named c.in_ok-links.ensures.front
    c.add_within_limit.ensures.within c.add_within_limit.ensures.few c.add_within_limit.ensures.outcome
    (λ i. answer_of (sym c.in_ok-add_within_limit.was i) (sym c.in-None.is i) (length c.in_ok-links.links.items))

pub returns-clause-added : goal.returns-clause-added
returns-clause-added c = λ T h l e.
    let names : List (List ℕ) = c.args.labels.now.keys in
    let end : c.len-end.result ≡ length c.in_ok-links.links.items = search rules in
    numbered_outcome T names c.as_slice-items.result.now c.self.inside.links.items c.add_within_limit.new.links.items c.as_slice.result.now c.in_ok-links.links.items
    c.args.pairs.now c.in_ok-links.missing c.add_within_limit.result (Err (Refused c.len-end.result c.in-Some.refusal)) l (e ∙ ap (map (named names)) (sym c.self.view_is))
    (keys_distinct bytes_eq bytes_eq-Decides names c.as_slice-items.ensures.unique)
    (subst (λ (ls : List Link). All (IsWithin names) ls) (sym c.self.view_is) c.requires.within)
    c.as_slice-items.ensures.keys c.as_slice.ensures.value c.in_ok-links.ensures.within c.in_ok-links.ensures.named c.in_ok-links.ensures.front
    c.add_within_limit.ensures.within c.add_within_limit.ensures.few c.add_within_limit.ensures.outcome
    (λ i. answer_of (sym c.in_ok-add_within_limit.was i) (sym c.in-Some.is i) (end i))
