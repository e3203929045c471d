-- What stands at the numbers of rules: a rule of the theory, or nothing where one has gone.
use Rattle.std.proofs.Common.{◌≡◌, ℕ, zero, suc, ◌<◌, Option, None, Some, List, [], ◌∷◌, ◌⊎◌, length, get_or, refl, sym, ap, ◌∙◌, subst, arith, inl, inr, true≢false}
use Rattle.std.specs.Prelude.{All, IsSome, is_some, unwrap_or, Contains}
use Rattle.std.proofs.lemmas.List.{get_or_default}
use Rattle.dl_theory.specs.declared.rule.Rule.{Rule}
use Rattle.dl_rows.specs.Counting.{times}
use Rattle.dl_rows.specs.Rows.{row}
use Rattle.dl_rows.proofs.There.{has_within, has_there, there_has}
use Rattle.dl_graph.specs.Numbers.{NetLists, IsNumbered, HasRule, rule_at, no_rule, of_rule}

some_is : (o : Option Rule) → IsSome o → o ≡ Some (unwrap_or o no_rule)
some_is None h = absurd (true≢false (sym h))
some_is (Some x) h = refl

pub rule_there : (N : NetLists) (r : ℕ) → HasRule N r → get_or N.rules r None ≡ Some (rule_at N r)
rule_there N r h = some_is (get_or N.rules r None) h

pub there_rule : (N : NetLists) (r : ℕ) (x : Rule) → get_or N.rules r None ≡ Some x → HasRule N r × (rule_at N r ≡ x)
there_rule N r x e =
    (ap is_some e, ap (λ (o : Option Rule). unwrap_or o no_rule) e)

some_or_none : (o : Option Rule) → IsSome o ⊎ (o ≡ None)
some_or_none None = inr refl
some_or_none (Some x) = inl refl

pub has_rule : (N : NetLists) (r : ℕ) → HasRule N r ⊎ (get_or N.rules r None ≡ None)
has_rule N r = some_or_none (get_or N.rules r None)

pub rule_within : (N : NetLists) (r : ℕ) → HasRule N r → r < length N.rules
rule_within N r h = has_within N.rules (rule_at N r) r (rule_there N r h)

pub rule_in : (N : NetLists) → IsNumbered N → (r : ℕ) → HasRule N r → Contains N.theory.rules (rule_at N r)
rule_in N numbered r h =
    subst (λ (xs : List Rule). Contains xs (rule_at N r)) (sym numbered.rules) (has_there N.rules (rule_at N r) r (rule_there N r h))

pub number_of_rule : (N : NetLists) → IsNumbered N → (x : Rule) → Contains N.theory.rules x → (r : ℕ) × HasRule N r × (rule_at N r ≡ x)
number_of_rule N numbered x m =
    let at = there_has N.rules x (subst (λ (xs : List Rule). Contains xs x) numbered.rules m) in
    let is = there_rule N at.0 x at.1 in
    (at.0, is.0, is.1)

-- what holds of an empty number and of the rules of the theory holds of all that stands at numbers
pub all_slots : (N : NetLists) → IsNumbered N → (P : Option Rule → Type 0) → P None → ((r : Rule) → Contains N.theory.rules r → P (Some r)) → All P N.rules
all_slots N numbered P none some =
    λ k d lt. by k (get_or N.rules k d) (get_or_default N.rules k None d lt)
  where
    by : (k : ℕ) (o : Option Rule) → get_or N.rules k None ≡ o → P o
    by k None e = none
    by k (Some r) e = some r (subst (λ (xs : List Rule). Contains xs r) (sym numbered.rules) (has_there N.rules r k e))

-- ---- rows by number

pub row_at : (f : Rule → List ℕ) (xs : List (Option Rule)) (r : ℕ) → row (of_rule f) xs r ≡ of_rule f (get_or xs r None)
row_at f [] r = refl
row_at f (x ∷ xs) zero = refl
row_at f (x ∷ xs) (suc r) = row_at f xs r

pub row_of : (N : NetLists) (f : Rule → List ℕ) (r : ℕ) → HasRule N r → row (of_rule f) N.rules r ≡ f (rule_at N r)
row_of N f r h = row_at f N.rules r ∙ ap (of_rule f) (rule_there N r h)

pub row_none : (N : NetLists) (f : Rule → List ℕ) (r : ℕ) → get_or N.rules r None ≡ None → row (of_rule f) N.rules r ≡ []
row_none N f r e = row_at f N.rules r ∙ ap (of_rule f) e

pub row_has : (N : NetLists) (f : Rule → List ℕ) (r q : ℕ) → 0 < times q (row (of_rule f) N.rules r) → HasRule N r × (0 < times q (f (rule_at N r)))
row_has N f r q h =
    elim (has_rule N r) [
      | inl at ↦ (at, subst (λ (xs : List ℕ). 0 < times q xs) (row_of N f r at) h)
      | inr none ↦ absurd (omega (arith, h, ap (times q) (row_none N f r none)))
    ]
