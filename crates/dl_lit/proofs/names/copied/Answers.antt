use Rattle.std.proofs.Common.{List, [], ◌∷◌, ◌++◌, take, ap, sym, ◌∙◌}
use Rattle.std.proofs.lemmas.List.{take_more}
use Rattle.dl_lit.specs.declared.literal.Literal.{Literal}
use Rattle.dl_lit.specs.Names.{with_name}
use Rattle.dl_lit.proofs.NamesLemmas.{with_name-new, next_new}
use Rattle.dl_lit.proofs.names.copied.Goals as goal

pub loop-literal-preserved : goal.loop-literal-preserved
loop-literal-preserved c =
    let xs : List Literal = c.args.literals.now in
    let x : Literal = c.literal-item.result in
    c.in_ok-insert.ensures.named
    ∙ ap (with_name c.loop-literal.set.keys) c.in_ok-copy.ensures
    ∙ ap (λ (ks : List Literal). with_name ks x) c.loop-literal.invariant
    ∙ with_name-new (take c.loop-literal.literal-index xs) x (next_new xs c.loop-literal.literal-index x c.requires c.loop-literal-test.true c.literal-item.is)
    ∙ ap (λ (q : Literal). take c.loop-literal.literal-index xs ++ q ∷ []) c.literal-item.is
    ∙ sym (take_more xs c.loop-literal.literal-index x c.loop-literal-test.true)
