use Rattle.std.proofs.Common.{[], ◌∷◌, List, inl, inr, sym, subst}
use Rattle.std.specs.Prelude.{Contains}
use Rattle.std.proofs.lemmas.List.Elements.{Contains-append_left, Contains-append_right}
use Rattle.dl_lit.specs.declared.literal.Literal.{Literal}
use Rattle.dl_graph.specs.Named.{Grows}
use Rattle.dl_names.proofs.NameLemmas.{Grows-trans, Grows-weaker, Grows-keeps}
use Rattle.dl_update.specs.Drafts.{IsNew}
use Rattle.dl_update.proofs.News.{new_more, near_parts, on_ok}
use Rattle.dl_update.proofs.places.collect_rule.Goals as goal

-- the head's part of what is new
head_part : (known : List Literal) (head : Literal) (body a b : List Literal) → Grows (IsNew known (head ∷ [])) a b → Grows (IsNew known (head ∷ body)) a b
head_part known head body a b grown =
    Grows-weaker (IsNew known (head ∷ [])) (IsNew known (head ∷ body)) a b
    (λ q h. new_more known (head ∷ []) (head ∷ body) (λ x m. Contains-append_left (head ∷ []) body x m) q h) grown

pub returns-in_err-collect-clause-grown : goal.returns-in_err-collect-clause-grown
returns-in_err-collect-clause-grown c =
    head_part c.args.net.now.names c.args.rule.now.head c.args.rule.now.body c.args.names.now.literals c.collect.new.names.literals c.collect.ensures.grown

pub returns-clause-grown : goal.returns-clause-grown
returns-clause-grown c =
    let known : List Literal = c.args.net.now.names in
    let head : Literal = c.args.rule.now.head in
    let body : List Literal = c.args.rule.now.body in
    let middle : List Literal = c.collect.new.names.literals in
    let new : List Literal = c.collect_all.new.names.literals in
    Grows-trans (IsNew known (head ∷ body)) c.args.names.now.literals middle new
    (head_part known head body c.args.names.now.literals middle c.collect.ensures.grown)
    (Grows-weaker (IsNew known c.as_slice.result.now) (IsNew known (head ∷ body)) middle new
    (λ q h. new_more known body (head ∷ body) (λ x m. Contains-append_right (head ∷ []) body x m) q
    (subst (λ (xs : List Literal). IsNew known xs q) c.as_slice.ensures h))
    c.collect_all.ensures.grown)

pub returns-clause-there : goal.returns-clause-there
returns-clause-there c =
    let known : List Literal = c.args.net.now.names in
    let head : Literal = c.args.rule.now.head in
    let body : List Literal = c.args.rule.now.body in
    let middle : List Literal = c.collect.new.names.literals in
    let new : List Literal = c.collect_all.new.names.literals in
    on_ok c.collect_all.result ((q : Literal) → IsNew known c.as_slice.result.now q → Contains new q)
    ((q : Literal) → IsNew known (head ∷ body) q → Contains new q)
    (λ rest q h. elim (near_parts (head ∷ []) body q h.0) [
      | inl one ↦
          Grows-keeps (IsNew known c.as_slice.result.now) middle new q c.collect_all.ensures.grown (c.in_ok-collect.ensures.there q (one, h.1))
      | inr more ↦ rest q (subst (λ (xs : List Literal). IsNew known xs q) (sym c.as_slice.ensures) (more, h.1))
    ])
    c.collect_all.ensures.there
