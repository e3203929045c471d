-- The part of a theory that matters for some literals.
use Rattle.std.specs.Prelude.{◌≡◌, ◌↔◌, ◌⊎◌, ℕ, List, map, All, Contains}
use Rattle.std.specs.Bool.{Decides}
use Rattle.dl_lit.specs.declared.literal.Literal.{Literal}
use Rattle.dl_lit.specs.declared.literal.Tag.{Tag}
use Rattle.dl_lit.specs.Literal.{tagged}
use Rattle.dl_theory.specs.declared.rule.Rule.{Rule}
use Rattle.dl_theory.specs.declared.rule.Pair.{Pair}
use Rattle.dl_theory.specs.Lists.{TheoryLists, Opposes, Beats, attackers}
use Rattle.dl_theory.specs.Derivations.{Follows}
use Rattle.dl_marks.specs.Marks.{Marking, places, marked, is_owned}
use Rattle.dl_graph.specs.Region.{Numbers}
use Rattle.dl_graph.specs.Numbers.{NetLists, HasRule, literal_at, rule_at, next}
use Rattle.dl_graph.specs.declared.link.Link.TheVariants.{Counters}

-- literals with what attacks them and the bodies of the rules for them
pub record HasAllBehind (T : TheoryLists) (S : Literal → Type 0) : Type 0 where
  pub attacked : (q c : Literal) → S q → Contains (attackers T q) c → S c
  pub bodies : (r : Rule) → Contains T.rules r → S r.head → All S r.body

-- P has of T the facts with S, the rules for literals with S, and what it says of two such rules whose heads attack each other
pub record IsPart (S : Literal → Type 0) (T P : TheoryLists) : Type 0 where
  pub facts : (q : Literal) → Contains P.facts q ↔ (Contains T.facts q × S q)
  pub rules : (r : Rule) → Contains P.rules r ↔ (Contains T.rules r × S r.head)
  pub above : (t u : Rule) → Contains P.rules t → Contains P.rules u → Opposes T t.head u → Beats P t u ↔ Beats T t u

-- x has come to a list, unless it was there
abbrev pub Adds : {A : Type 0} → A → List A → List A → Type 0
Adds {A} x old new = (y : A) → Contains new y ↔ (Contains old y ⊎ (y ≡ x))

-- the same where x passes
abbrev pub AddsIf : {A : Type 0} → (A → Type 0) → A → List A → List A → Type 0
AddsIf {A} P x old new = (y : A) → Contains new y ↔ (Contains old y ⊎ ((y ≡ x) × P y))

-- xs have come to a list, as far as they were not there
abbrev pub Gathers : {A : Type 0} → List A → List A → List A → Type 0
Gathers {A} xs old new = (y : A) → Contains new y ↔ (Contains old y ⊎ Contains xs y)

-- a literal with one of the numbers
abbrev pub IsOf : NetLists → List ℕ → Literal → Type 0
IsOf N numbers q = Contains (map (literal_at N) numbers) q

-- the numbers of the rules for literals with the numbers
pub record AreRulesFor (N : NetLists) (numbers : List ℕ) (rules : Numbers) : Type 0 where
  pub inside : All (HasRule N) rules.members
  pub sound : All (λ r. IsOf N numbers (rule_at N r).head) rules.members
  pub complete : (r : ℕ) → HasRule N r → IsOf N numbers (rule_at N r).head → Contains rules.members r

abbrev pub pair_at : NetLists → ℕ → ℕ → Pair
pair_at N upper lower = record { upper = (rule_at N upper).label; lower = (rule_at N lower).label }

-- the pair of a rule with one of the numbers and one for what it attacks to which it is superior
abbrev pub IsBelow : NetLists → List ℕ → Pair → Type 0
IsBelow N rules p = (r : ℕ) × Contains rules r × Contains (map (pair_at N r) (next N Counters r)) p

-- what stands at a number in m is on its way to another one: what agrees stays, and no other number changes
pub record Copies (m : Marking) (from to : ℕ) (old new : Marking) : Type 0 where
  pub kept : (t : Tag) → marked old t to ≡ marked m t from → marked new t to ≡ marked m t from
  pub others : (t : Tag) (n : ℕ) → ¬ (n ≡ to) → marked new t n ≡ marked old t n
  pub places : places new ≡ places old
  pub owned : (n : ℕ) → is_owned new n ≡ is_owned old n

-- the marks at the number of a literal tell what follows
abbrev pub AreExactAt : NetLists → Marking → ℕ → Type 0
AreExactAt N m n = (t : Tag) → Decides (marked m t n) (Follows N.theory (tagged t.plus t.family (literal_at N n)))
