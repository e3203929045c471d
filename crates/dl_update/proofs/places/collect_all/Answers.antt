use Rattle.std.proofs.Common.{[], ◌∷◌, ◌++◌, ◌+◌, ◌≡◌, ℕ, List, take, inl, inr, sym, ap, subst, ◌∙◌}
use Rattle.std.specs.Prelude.{Contains}
use Rattle.std.proofs.lemmas.List.{take_more, take_all}
use Rattle.dl_base.proofs.Members.{only}
use Rattle.dl_lit.specs.declared.literal.Literal.{Literal}
use Rattle.dl_graph.specs.Named.{IsNear, Grows}
use Rattle.dl_names.proofs.NameLemmas.{Grows-trans, Grows-weaker, Grows-keeps}
use Rattle.dl_update.specs.Drafts.{IsNew}
use Rattle.dl_update.proofs.News.{new_more, near_parts}
use Rattle.dl_update.proofs.places.collect_all.Goals as goal

-- the names that came by one literal are among those of all
one_of : (known xs : List Literal) (q : Literal) (a b c : List Literal) → Contains xs q → Grows (IsNew known xs) a b → Grows (IsNew known (q ∷ [])) b c
    → Grows (IsNew known xs) a c
one_of known xs q a b c there first second =
    Grows-trans (IsNew known xs) a b c first
    (Grows-weaker (IsNew known (q ∷ [])) (IsNew known xs) b c
    (λ r h. new_more known (q ∷ []) xs (λ x m. subst (Contains xs) (sym (only q x m)) there) r h) second)

pub returns-in_err-collect-clause-grown : goal.returns-in_err-collect-clause-grown
returns-in_err-collect-clause-grown c =
    one_of c.args.net.now.names c.args.literals.now c.literal-item.result c.args.names.now.literals c.loop-literal.names.literals c.collect.new.names.literals
    (c.loop-literal.literal-index, c.loop-literal-test.true, sym c.literal-item.is) c.loop-literal.invariant.grown c.collect.ensures.grown

pub loop-literal-preserved : goal.loop-literal-preserved
loop-literal-preserved c =
    let known : List Literal = c.args.net.now.names in
    let xs : List Literal = c.args.literals.now in
    let q : Literal = c.literal-item.result in
    let i : ℕ = c.loop-literal.literal-index in
    let new : List Literal = c.collect.new.names.literals in
    let more : take (i + 1) xs ≡ take i xs ++ q ∷ [] = take_more xs i q c.loop-literal-test.true ∙ ap (λ x. take i xs ++ x ∷ []) (sym c.literal-item.is) in
    record {
      paired = c.collect.ensures.paired;
      grown = one_of known xs q c.args.names.now.literals c.loop-literal.names.literals new (i, c.loop-literal-test.true, sym c.literal-item.is)
          c.loop-literal.invariant.grown c.collect.ensures.grown;
      there = λ r h. elim (near_parts (take i xs) (q ∷ []) r (subst (λ (ys : List Literal). IsNear ys r) more h.0)) [
        | inl before ↦
            Grows-keeps (IsNew known (q ∷ [])) c.loop-literal.names.literals new r c.collect.ensures.grown (c.loop-literal.invariant.there r (before, h.1))
        | inr one ↦ c.in_ok-collect.ensures.there r (one, h.1)
      ];
    }

pub returns-clause-there : goal.returns-clause-there
returns-clause-there c = λ r h.
    c.loop-literal.invariant.there r
    (subst (λ (ys : List Literal). IsNew c.args.net.now.names ys r) (sym (take_all c.loop-literal.literal-index c.args.literals.now c.loop-literal-test.false)) h)
