-- Theories as callers see them: facts, rules and pairs of labels.
use Rattle.std.specs.Prelude.{◌≡◌, ℕ, ◌≤◌, Bool, true, false, IsTrue, List, [], ◌∷◌, length, All, Contains, map}
use Rattle.dl_lit.specs.declared.literal.Literal.{Literal}
use Rattle.dl_lit.specs.Literal.{complement}
use Rattle.dl_base.specs.Paths.{IsDistinct, HasCycle}
use Rattle.dl_theory.specs.declared.rule.Rule.{Rule}
use Rattle.dl_theory.specs.declared.rule.Pair.{Pair}
use Rattle.dl_theory.specs.declared.rule.Kind.{Kind}
use Rattle.dl_theory.specs.declared.rule.Kind.TheVariants.{Strict, Defeasible, Defeater}

-- the three lists of a theory
pub record TheoryLists : Type 0 where
  pub facts : List Literal
  pub rules : List Rule
  pub pairs : List Pair

abbrev pub no_lists : TheoryLists
no_lists = record { facts = []; rules = []; pairs = [] }

abbrev pub labels : TheoryLists → List (List ℕ)
labels T = map (λ r. r.label) T.rules

-- the upper label is superior to the lower one
abbrev pub IsAbove : List Pair → List ℕ → List ℕ → Type 0
IsAbove pairs upper lower = Contains pairs (record { upper = upper; lower = lower })

pub record IsWellFormed (T : TheoryLists) : Type 0 where
  pub labels_distinct : IsDistinct (labels T)
  pub facts_distinct : IsDistinct T.facts
  pub pairs_distinct : IsDistinct T.pairs
  pub pairs_label_rules : All (λ p. Contains (labels T) p.upper × Contains (labels T) p.lower) T.pairs
  pub acyclic : ¬ HasCycle (IsAbove T.pairs)
  pub few_facts : length T.facts ≤ 1000000
  pub few_rules : length T.rules ≤ 1000000
  pub few_pairs : length T.pairs ≤ 1000000

-- the literals that attack q
abbrev pub attackers : TheoryLists → Literal → List Literal
attackers T q = complement q ∷ []

abbrev pub is_strict : Kind → Bool
is_strict Strict = true
is_strict Defeasible = false
is_strict Defeater = false

-- a defeater supports nothing
abbrev pub can_support : Kind → Bool
can_support Strict = true
can_support Defeasible = true
can_support Defeater = false

-- a strict rule for q
abbrev pub IsStrictFor : Literal → Rule → Type 0
IsStrictFor q r = (r.head ≡ q) × IsTrue (is_strict r.kind)

-- a strict or defeasible rule for q
abbrev pub Supports : Literal → Rule → Type 0
Supports q r = (r.head ≡ q) × IsTrue (can_support r.kind)

-- a rule of any kind for a literal that attacks q
abbrev pub Opposes : TheoryLists → Literal → Rule → Type 0
Opposes T q r = Contains (attackers T q) r.head

-- t is superior to u
abbrev pub Beats : TheoryLists → Rule → Rule → Type 0
Beats T t u = IsAbove T.pairs t.label u.label
