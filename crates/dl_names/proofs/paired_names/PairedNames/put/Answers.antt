use Rattle.std.proofs.Common.{◌≡◌, ◌*◌, ◌++◌, ◌∷◌, [], ℕ, List, Option, Some, false, length, sym, ap, subst, ◌∙◌}
use Rattle.std.specs.Prelude.{Contains, IfSome}
use Rattle.std.specs.List.{list_any}
use Rattle.dl_base.specs.Paths.{IsDistinct}
use Rattle.dl_lit.specs.declared.literal.Literal.{Literal}
use Rattle.dl_lit.specs.Literal.{complement}
use Rattle.dl_lit.specs.Names.{Numbering}
use Rattle.dl_names.specs.Pairs.{pairs_of, same_atom}
use Rattle.dl_names.proofs.NameLemmas.{both_distinct}
use Rattle.dl_names.proofs.PairLemmas.{pairs_len, pairs_paired, pairs_absent, added_pair}
use Rattle.dl_names.proofs.paired_names.PairedNames.put.Goals as goal

-- what was put in as new is in no pair
new_is : (ps : List Literal) (q : Literal) (put : Option ℕ) (k : ℕ) → put ≡ Some k → IfSome put (λ n. list_any (same_atom q) ps ≡ false)
    → ¬ Contains (pairs_of ps) q
new_is ps q put k e h = pairs_absent ps q (subst (λ (o : Option ℕ). IfSome o (λ n. list_any (same_atom q) ps ≡ false)) e h)

pub invariant_of-self-2 : goal.invariant_of-self-2
invariant_of-self-2 c =
    let ps : List Literal = c.self.inside.pairs in
    let q : Literal = c.args.literal.now in
    let none : ¬ Contains (pairs_of ps) q = new_is ps q c.in_ok-put.field-0 c.in-Some.place c.in-Some.is c.in_ok-put.ensures.new in
    let added : c.put.new.self ≡ ps ++ q ∷ [] =
    subst (λ (o : Option ℕ). IfSome o (λ n. c.put.new.self ≡ ps ++ q ∷ [])) c.in-Some.is c.in_ok-put.ensures.added in
    record {
      distinct = subst (λ (ls : List Literal). IsDistinct ls) (sym (added_pair ps c.put.new.self q added))
          (both_distinct (pairs_of ps) q (pairs_paired ps) c.self.invariant.distinct none);
    }

pub returns-clause-absent : goal.returns-clause-absent
returns-clause-absent c =
    subst (λ (n : Numbering). ¬ Contains n.literals c.args.literal.now) c.self.view_is
    (new_is c.self.inside.pairs c.args.literal.now c.in_ok-put.field-0 c.in-Some.place c.in-Some.is c.in_ok-put.ensures.new)

pub returns-clause-added : goal.returns-clause-added
returns-clause-added c =
    let ps : List Literal = c.self.inside.pairs in
    let q : Literal = c.args.literal.now in
    added_pair ps c.put.new.self q
    (subst (λ (o : Option ℕ). IfSome o (λ n. c.put.new.self ≡ ps ++ q ∷ [])) c.in-Some.is c.in_ok-put.ensures.added)
    ∙ ap (λ (n : Numbering). n.literals ++ q ∷ complement q ∷ []) c.self.view_is

pub returns-clause-number : goal.returns-clause-number
returns-clause-number c =
    let ps : List Literal = c.self.inside.pairs in
    ap (λ k. 2 * k) (subst (λ (o : Option ℕ). IfSome o (λ n. n ≡ length ps)) c.in-Some.is c.in_ok-put.ensures.place)
    ∙ sym (pairs_len ps) ∙ ap (λ (n : Numbering). length n.literals) c.self.view_is
