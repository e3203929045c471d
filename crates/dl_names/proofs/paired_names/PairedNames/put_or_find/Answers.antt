use Rattle.std.proofs.Common.{◌≡◌, ℕ, ◌++◌, ◌∷◌, [], List, Option, length, sym, subst, ◌∙◌}
use Rattle.std.specs.Prelude.{Contains, IfSome, IfNone}
use Rattle.dl_base.specs.Paths.{IsDistinct}
use Rattle.dl_lit.specs.declared.literal.Literal.{Literal}
use Rattle.dl_lit.specs.Literal.{complement}
use Rattle.dl_lit.specs.Names.{Numbering, with_both}
use Rattle.dl_names.specs.Paired.{IsPaired}
use Rattle.dl_names.proofs.NameLemmas.{paired_push, found_at, both_old, both_new, both_distinct}
use Rattle.dl_names.proofs.PairLemmas.{numbered}
use Rattle.dl_names.proofs.paired_names.PairedNames.put_or_find.Goals as goal

pub returns-in-Some-clause-named : goal.returns-in-Some-clause-named
returns-in-Some-clause-named c =
    let ls : List Literal = c.args.self.now.literals in
    let q : Literal = c.args.literal.now in
    let none : ¬ Contains ls q = subst (λ (o : Option ℕ). IfSome o (λ n. ¬ Contains ls q)) c.in-Some.is c.in_ok-number.ensures.absent in
    subst (λ (o : Option ℕ). IfSome o (λ n. c.put.new.self.literals ≡ ls ++ q ∷ complement q ∷ [])) c.in-Some.is c.in_ok-number.ensures.added
    ∙ sym (both_new ls q c.len-len.ensures.paired none)

pub returns-in-Some-clause-distinct : goal.returns-in-Some-clause-distinct
returns-in-Some-clause-distinct c =
    let ls : List Literal = c.args.self.now.literals in
    let q : Literal = c.args.literal.now in
    let none : ¬ Contains ls q = subst (λ (o : Option ℕ). IfSome o (λ n. ¬ Contains ls q)) c.in-Some.is c.in_ok-number.ensures.absent in
    let added : c.put.new.self.literals ≡ ls ++ q ∷ complement q ∷ [] =
    subst (λ (o : Option ℕ). IfSome o (λ n. c.put.new.self.literals ≡ ls ++ q ∷ complement q ∷ [])) c.in-Some.is c.in_ok-number.ensures.added in
    subst (λ (ks : List Literal). IsDistinct ks) (sym added) (both_distinct ls q c.len-len.ensures.paired c.len-len.ensures.distinct none)

pub returns-in-Some-clause-paired : goal.returns-in-Some-clause-paired
returns-in-Some-clause-paired c =
    let ls : List Literal = c.args.self.now.literals in
    let q : Literal = c.args.literal.now in
    let added : c.put.new.self.literals ≡ ls ++ q ∷ complement q ∷ [] =
    subst (λ (o : Option ℕ). IfSome o (λ n. c.put.new.self.literals ≡ ls ++ q ∷ complement q ∷ [])) c.in-Some.is c.in_ok-number.ensures.added in
    subst (λ (ks : List Literal). IsPaired ks) (sym added) (paired_push ls q c.len-len.ensures.paired)

pub returns-in-Some-clause-number : goal.returns-in-Some-clause-number
returns-in-Some-clause-number c =
    let ls : List Literal = c.args.self.now.literals in
    let q : Literal = c.args.literal.now in
    let added : c.put.new.self.literals ≡ ls ++ q ∷ complement q ∷ [] =
    subst (λ (o : Option ℕ). IfSome o (λ n. c.put.new.self.literals ≡ ls ++ q ∷ complement q ∷ [])) c.in-Some.is c.in_ok-number.ensures.added in
    let first : c.in-Some.number ≡ length ls =
    subst (λ (o : Option ℕ). IfSome o (λ n. n ≡ length ls)) c.in-Some.is c.in_ok-number.ensures.number in
    numbered c.put.new.self.literals ls q c.in-Some.number (returns-in-Some-clause-distinct c) added first

pub returns-in-Some-find-clause-named : goal.returns-in-Some-find-clause-named
returns-in-Some-find-clause-named c =
    let old : Numbering = c.args.self.now in
    let new : Numbering = c.put.new.self in
    let q : Literal = c.args.literal.now in
    let same : new ≡ old = subst (λ (o : Option ℕ). IfNone o (new ≡ old)) c.in-None.is c.in_ok-number.ensures.same in
    let f = found_at new.literals q c.in-Some-find.number (sym c.in-Some-find.ensures.number) in
    sym (both_old new.literals q c.in-Some-find.ensures.paired (c.in-Some-find.number, f.0, f.1 q))
    ∙ (λ i. with_both (same i).literals q)
