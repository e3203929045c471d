-- A theory whose literals, facts, rules and pairs have numbers. A literal's number is its place among the names. What is added to a list
-- goes last, under the next number, and what goes leaves its number empty, so that the list is what is there, in ascending order.
use Rattle.std.specs.Prelude.{◌≡◌, ℕ, ◌<◌, Bool, ◌&&◌, cond, Option, None, Some, IsSome, unwrap_or, List, [], ◌∷◌, length, map, Contains, get_or, slice_index_or, true, false}
use Rattle.std.specs.List.{position_or_len, flat_map}
use Rattle.std.specs.Set.{is_member}
use Rattle.std.specs.Str.{bytes_eq}
use Rattle.dl_lit.specs.declared.literal.Literal.{Literal}
use Rattle.dl_lit.specs.Literal.{complement, literal_eq}
use Rattle.dl_theory.specs.declared.rule.Rule.{Rule}
use Rattle.dl_theory.specs.declared.rule.Pair.{Pair}
use Rattle.dl_theory.specs.declared.rule.Kind.TheVariants.{Defeater}
use Rattle.dl_theory.specs.declared.edit.Edit.{Edit}
use Rattle.dl_theory.specs.Lists.{TheoryLists, no_lists, is_strict, can_support, attackers}
use Rattle.dl_theory.specs.Listings.{Mentions}
use Rattle.dl_theory.specs.Tests as test
use Rattle.dl_rows.specs.Counting.{each_once}
use Rattle.dl_rows.specs.Rows.{row, places}
use Rattle.dl_rows.specs.There.{there}
use Rattle.dl_graph.specs.declared.link.Link.{Link}
use Rattle.dl_graph.specs.declared.link.Link.TheVariants.{Same, Uses, Backs, Proves, Opposes, Defends, Counters}

-- a theory, its facts, rules and pairs by number, its literals by number, the edit that is prepared, and whether the net can be shared
pub record NetLists : Type 0 where
  pub theory : TheoryLists
  pub facts : List (Option Literal)
  pub rules : List (Option Rule)
  pub pairs : List (Option Pair)
  pub names : List Literal
  pub pending : Option Edit
  pub frozen : Bool

abbrev pub no_net : NetLists
no_net = record { theory = no_lists; facts = []; rules = []; pairs = []; names = []; pending = None; frozen = false }

abbrev pub no_literal : Literal
no_literal = record { mode = None; atom = []; positive = true }

abbrev pub no_rule : Rule
no_rule = record { label = []; kind = Defeater; body = []; head = no_literal }

abbrev pub literal_at : NetLists → ℕ → Literal
literal_at N q = slice_index_or N.names q no_literal

-- a number below the end may be empty, and none past it has a rule
abbrev pub HasRule : NetLists → ℕ → Type 0
HasRule N r = IsSome (get_or N.rules r None)

-- the rule with a number; where there is none, a defeater without a body
abbrev pub rule_at : NetLists → ℕ → Rule
rule_at N r = unwrap_or (get_or N.rules r None) no_rule

-- the number of a literal
abbrev pub number : NetLists → Literal → ℕ
number N q = position_or_len (λ x. literal_eq x q) N.names

-- The lists are what is there. Each literal of the theory and its complement have a number, and no two numbers stand for one literal.
pub record IsNumbered (N : NetLists) : Type 0 where
  pub facts : N.theory.facts ≡ there N.facts
  pub rules : N.theory.rules ≡ there N.rules
  pub pairs : N.theory.pairs ≡ there N.pairs
  pub distinct : (k : ℕ) → k < length N.names → number N (literal_at N k) ≡ k
  pub mentioned : (q : Literal) → Mentions N.theory q → Contains N.names q
  pub complements : (q : Literal) → Contains N.names q → Contains N.names (complement q)

-- ---- the numbers that belong to a rule; an empty number has none

abbrev pub of_rule : (Rule → List ℕ) → Option Rule → List ℕ
of_rule f None = []
of_rule f (Some r) = f r

-- the numbers of the body, each once
abbrev pub body_row : NetLists → Rule → List ℕ
body_row N r = each_once (map (number N) r.body)

-- the number of the head, where the rule can support it
abbrev pub backs_row : NetLists → Rule → List ℕ
backs_row N r = cond (can_support r.kind) (number N r.head ∷ []) []

-- the number of the head, where the rule is strict
abbrev pub proves_row : NetLists → Rule → List ℕ
proves_row N r = cond (is_strict r.kind) (number N r.head ∷ []) []

-- the number of the head
abbrev pub head_row : NetLists → Rule → List ℕ
head_row N r = number N r.head ∷ []

-- the rules with that head, of any kind, in the order of the list
abbrev pub heads : NetLists → ℕ → List ℕ
heads N q = places (of_rule (head_row N)) N.rules q

-- the numbers of the literals that attack a literal
abbrev pub attackers_row : NetLists → Literal → List ℕ
attackers_row N q = map (number N) (attackers N.theory q)

-- the numbers of the literals that the rule opposes: attack goes both ways
abbrev pub opposes_row : NetLists → Rule → List ℕ
opposes_row N r = attackers_row N r.head

-- one number where the test holds
abbrev pub mark_row : Bool → List ℕ
mark_row b = cond b (0 ∷ []) []

-- the numbers of the rules that have the label and pass the test
abbrev pub labelled : NetLists → List ℕ → (Rule → Bool) → List ℕ
labelled N label p = places (of_rule (λ r. mark_row (bytes_eq r.label label && p r))) N.rules 0

-- the rules for what attacks the head of t to which t is superior, in the order of the pairs
abbrev pub lowers_row : NetLists → Rule → List ℕ
lowers_row N t =
    flat_map (λ (p : Pair). cond (bytes_eq p.upper t.label) (labelled N p.lower (test.is_opposing N.theory t.head)) []) N.theory.pairs

-- the rules whose head is attacked by that of u which are superior to u and pass the test, in the order of the pairs
abbrev pub uppers_row : NetLists → (Rule → Bool) → Rule → List ℕ
uppers_row N p u =
    flat_map
    (λ (pair : Pair). cond (bytes_eq pair.lower u.label) (labelled N pair.upper (λ t. test.is_opposing N.theory t.head u && p t)) [])
    N.theory.pairs

-- the rules that t can defend its head against
abbrev pub defends_row : NetLists → Rule → List ℕ
defends_row N t = cond (can_support t.kind) (lowers_row N t) []

-- where a link leads: from a literal to the rules whose bodies use it, from a rule to the literals that it backs, proves or opposes,
-- from a rule to the rules against which it defends its head, and from a rule to the rules for what it attacks that it is superior to
abbrev pub next : NetLists → Link → ℕ → List ℕ
next N Same x = x ∷ []
next N Uses q = places (of_rule (body_row N)) N.rules q
next N Backs r = row (of_rule (backs_row N)) N.rules r
next N Proves r = row (of_rule (proves_row N)) N.rules r
next N Opposes r = row (of_rule (opposes_row N)) N.rules r
next N Defends t = row (of_rule (defends_row N)) N.rules t
next N Counters u = row (of_rule (lowers_row N)) N.rules u

-- from where it comes
abbrev pub back : NetLists → Link → ℕ → List ℕ
back N Same x = x ∷ []
back N Uses r = row (of_rule (body_row N)) N.rules r
back N Backs q = places (of_rule (backs_row N)) N.rules q
back N Proves q = places (of_rule (proves_row N)) N.rules q
back N Opposes q = places (of_rule (opposes_row N)) N.rules q
back N Defends u = row (of_rule (uppers_row N (λ t. can_support t.kind))) N.rules u
back N Counters t = row (of_rule (uppers_row N (λ u. true))) N.rules t

-- the number of the complement of a numbered literal
abbrev pub number_of_other : NetLists → ℕ → ℕ
number_of_other N q = number N (complement (literal_at N q))

-- whether the literal is a fact
abbrev pub is_fact : NetLists → ℕ → Bool
is_fact N q = is_member literal_eq N.theory.facts (literal_at N q)
