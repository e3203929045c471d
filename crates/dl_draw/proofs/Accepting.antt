-- What stands next in the lists of a well-formed theory is accepted by the theory of what stands before it.
use Rattle.std.proofs.Common.{◌≡◌, ℕ, ◌<◌, ◌≤◌, List, length, map, take, get_or, sym, ap, subst, ◌∙◌, arith}
use Rattle.std.specs.Prelude.{Contains}
use Rattle.std.proofs.lemmas.List.{length-map, length-take-le, take-map, get_or-take, get_or-map}
use Rattle.std.proofs.lemmas.List.Elements.{All-contains, All-contains_itself, All-take}
use Rattle.dl_base.specs.Paths.{IsDistinct}
use Rattle.dl_base.proofs.PathLemmas.{path_more}
use Rattle.dl_lit.specs.declared.literal.Literal.{Literal}
use Rattle.dl_theory.specs.declared.rule.Rule.{Rule}
use Rattle.dl_theory.specs.declared.rule.Pair.{Pair}
use Rattle.dl_theory.specs.declared.edit.Edit.TheVariants.{AddRule, AddFact, AddPair}
use Rattle.dl_theory.specs.Lists.{TheoryLists, IsAbove, IsWellFormed}
use Rattle.dl_theory.specs.Edits.{HasBoth, IsAccepted}

-- x stands at n in xs, behind those before it
pub record IsNext {A : Type 0} (xs before : List A) (n : ℕ) (x : A) : Type 0 where
  pub within : n < length xs
  pub before_is : before ≡ take n xs
  pub here : x ≡ get_or xs n x

next_is_new : {A : Type 0} (xs before : List A) (n : ℕ) (x : A) → IsDistinct xs → IsNext xs before n x → ¬ Contains before x
next_is_new {A} xs before n x distinct h m =
    let within = h.within in
    let long : length before ≡ n = ap length h.before_is ∙ length-take-le n xs (omega arith) in
    let less : m.0 < n = omega (arith, m.1, long) in
    let stands : get_or xs m.0 x ≡ x =
    sym (get_or-take n xs m.0 x less) ∙ ap (λ (l : List A). get_or l m.0 x) (sym h.before_is) ∙ m.2 in
    distinct m.0 n x less h.within (stands ∙ h.here)

few_before : {A : Type 0} (xs before : List A) (n : ℕ) (x : A) → IsNext xs before n x → length xs ≤ 1000000 → length before < 1000000
few_before xs before n x h few =
    let within = h.within in
    omega (arith, ap length h.before_is, length-take-le n xs (omega arith))

next_mapped : {A B : Type 0} (f : A → B) (xs before : List A) (n : ℕ) (x : A) → IsNext xs before n x → IsNext (map f xs) (map f before) n (f x)
next_mapped f xs before n x h = record {
  within = let within = h.within in omega (arith, length-map xs f);
  before_is = ap (map f) h.before_is ∙ sym (take-map f n xs);
  here = ap f h.here ∙ sym (get_or-map f xs n x (f x) h.within);
}

pub fact_accepted : (T : TheoryLists) (all before : List Literal) (n : ℕ) (q : Literal) → IsWellFormed (record T { facts = all })
    → IsNext all before n q → IsAccepted (record T { facts = before }) (AddFact q)
fact_accepted T all before n q h next = (next_is_new all before n q h.facts_distinct next, few_before all before n q next h.few_facts)

pub rule_accepted : (T : TheoryLists) (all before : List Rule) (n : ℕ) (r : Rule) → IsWellFormed (record T { rules = all })
    → IsNext all before n r → IsAccepted (record T { rules = before }) (AddRule r)
rule_accepted T all before n r h next = (
  next_is_new (map (λ u. u.label) all) (map (λ u. u.label) before) n r.label h.labels_distinct (next_mapped (λ u. u.label) all before n r next),
  few_before all before n r next h.few_rules,
)

pub pair_accepted : (T : TheoryLists) (all before : List Pair) (n : ℕ) (p : Pair) → IsWellFormed (record T { pairs = all })
    → IsNext all before n p → IsAccepted (record T { pairs = before }) (AddPair p)
pair_accepted T all before n p h next =
    let there : Contains all p = (n, next.within, sym next.here) in
    let both : HasBoth T p = All-contains (HasBoth T) all p h.pairs_label_rules there in
    let fewer : (x y : List ℕ) → IsAbove before x y → IsAbove all x y =
    λ x y m. All-contains (Contains all) (take n all) (record { upper = x; lower = y })
    (All-take (Contains all) n all (All-contains_itself all))
    (subst (λ (pairs : List Pair). IsAbove pairs x y) next.before_is m) in (
      both.0,
      both.1,
      next_is_new all before n p h.pairs_distinct next,
      λ c. h.acyclic (record {
        first = p.lower;
        last = p.upper;
        path = c.0;
        is_path = path_more (IsAbove before) (IsAbove all) fewer p.lower p.upper c.0 c.1;
        closes = there;
      }),
      few_before all before n p next h.few_pairs,
    )
