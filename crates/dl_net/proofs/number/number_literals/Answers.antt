use Rattle.std.proofs.Common.{[], ◌∷◌, ◌++◌, ◌+◌, ◌≡◌, ◌<◌, ℕ, List, length, get_or, take, map, sym, ap, subst, ◌∙◌}
use Rattle.std.specs.Prelude.{All, Contains}
use Rattle.std.proofs.lemmas.List.{take_more, take_all, map-append}
use Rattle.std.proofs.lemmas.List.Elements.{All-push, All-weaker}
use Rattle.dl_base.proofs.Members.{map_agree}
use Rattle.dl_lit.specs.declared.literal.Literal.{Literal}
use Rattle.dl_lit.specs.Names.{Numbering}
use Rattle.dl_names.specs.Paired.{IsNear, Grows, number_in}
use Rattle.dl_names.proofs.NameLemmas.{Grows-trans, Grows-weaker, Grows-keeps, near_member}
use Rattle.dl_net.proofs.NetLemmas.{number_kept}
use Rattle.dl_net.proofs.number.number_literals.Goals as goal

-- one more of the literals is near them
grown_by : (xs a b c : List Literal) (q : Literal) → Contains xs q → Grows (IsNear xs) a b → Grows (IsNear (q ∷ [])) b c → Grows (IsNear xs) a c
grown_by xs a b c q there g h = Grows-trans (IsNear xs) a b c g (Grows-weaker (IsNear (q ∷ [])) (IsNear xs) b c (λ r k. near_member q xs r there k) h)

-- names that have all of the literals stay as they are at one literal more
same_by : (a b c : Numbering) (xs : List Literal) (i : ℕ) (q : Literal) → i < length xs → q ≡ get_or xs i q → (All (Contains a.literals) xs → b ≡ a)
    → (Contains b.literals q → c ≡ b) → All (Contains a.literals) xs → c ≡ a
same_by a b c xs i q lt is before now h =
    now (subst (λ (n : Numbering). Contains n.literals q) (sym (before h)) (subst (λ (x : Literal). Contains a.literals x) (sym is) (h i q lt))) ∙ before h

pub returns-in_err-number_literal-clause-same : goal.returns-in_err-number_literal-clause-same
returns-in_err-number_literal-clause-same c =
    same_by c.args.names.now c.loop-literal.names c.number_literal.new.names c.args.literals.now c.loop-literal.literal-index c.literal-item.result
    c.loop-literal-test.true c.literal-item.is c.loop-literal.invariant.same c.number_literal.ensures.same

pub returns-in_err-push-clause-same : goal.returns-in_err-push-clause-same
returns-in_err-push-clause-same c =
    same_by c.args.names.now c.loop-literal.names c.number_literal.new.names c.args.literals.now c.loop-literal.literal-index c.literal-item.result
    c.loop-literal-test.true c.literal-item.is c.loop-literal.invariant.same c.number_literal.ensures.same

pub returns-in_err-number_literal-clause-grown : goal.returns-in_err-number_literal-clause-grown
returns-in_err-number_literal-clause-grown c =
    grown_by c.args.literals.now c.args.names.now.literals c.loop-literal.names.literals c.number_literal.new.names.literals c.literal-item.result
    (c.loop-literal.literal-index, c.loop-literal-test.true, sym c.literal-item.is) c.loop-literal.invariant.grown c.number_literal.ensures.grown

pub returns-in_err-push-clause-grown : goal.returns-in_err-push-clause-grown
returns-in_err-push-clause-grown c =
    grown_by c.args.literals.now c.args.names.now.literals c.loop-literal.names.literals c.number_literal.new.names.literals c.literal-item.result
    (c.loop-literal.literal-index, c.loop-literal-test.true, sym c.literal-item.is) c.loop-literal.invariant.grown c.number_literal.ensures.grown

pub loop-literal-preserved : goal.loop-literal-preserved
loop-literal-preserved c =
    let xs : List Literal = c.args.literals.now in
    let q : Literal = c.literal-item.result in
    let i : ℕ = c.loop-literal.literal-index in
    let there : Contains xs q = (i, c.loop-literal-test.true, sym c.literal-item.is) in
    let old : List Literal = c.loop-literal.names.literals in
    let new : List Literal = c.number_literal.new.names.literals in
    let grown : Grows (IsNear (q ∷ [])) old new = c.number_literal.ensures.grown in
    let more : take (i + 1) xs ≡ take i xs ++ q ∷ [] = take_more xs i q c.loop-literal-test.true ∙ ap (λ x. take i xs ++ x ∷ []) (sym c.literal-item.is) in
    record {
      paired = c.number_literal.ensures.paired;
      distinct = c.number_literal.ensures.distinct;
      grown = grown_by xs c.args.names.now.literals old new q there c.loop-literal.invariant.grown grown;
      there = subst (λ (ys : List Literal). All (Contains new) ys) (sym more)
          (All-push (Contains new) (take i xs) q
          (All-weaker (Contains old) (Contains new) (λ r m. Grows-keeps (IsNear (q ∷ [])) old new r grown m) (take i xs) c.loop-literal.invariant.there)
          c.in_ok-number_literal.ensures.there);
      numbers = c.in_ok-push.ensures
          ∙ (λ j. (c.loop-literal.invariant.numbers
          ∙ map_agree (number_in old) (number_in new) (take i xs)
          (All-weaker (Contains old) (λ r. number_in old r ≡ number_in new r) (number_kept old new c.number_literal.ensures.distinct (IsNear (q ∷ [])) grown) (take i xs)
          c.loop-literal.invariant.there)) j ++ c.in_ok-number_literal.ensures.number j ∷ [])
          ∙ sym (ap (map (number_in new)) more ∙ map-append (number_in new) (take i xs) (q ∷ []));
      same = same_by c.args.names.now c.loop-literal.names c.number_literal.new.names xs i q c.loop-literal-test.true c.literal-item.is c.loop-literal.invariant.same
          c.number_literal.ensures.same;
    }

pub returns-clause-there : goal.returns-clause-there
returns-clause-there c =
    subst (λ (ys : List Literal). All (Contains c.loop-literal.names.literals) ys)
    (take_all c.loop-literal.literal-index c.args.literals.now c.loop-literal-test.false) c.loop-literal.invariant.there
