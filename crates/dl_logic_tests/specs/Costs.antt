-- A theory of two rules, r1: => a and r2: => b, and four edits of it.
use Rattle.std.specs.Prelude.{ℕ, true, None, List, [], ◌∷◌}
use Rattle.dl_lit.specs.declared.literal.Literal.{Literal}
use Rattle.dl_theory.specs.declared.rule.Rule.{Rule}
use Rattle.dl_theory.specs.declared.rule.Kind.TheVariants.{Defeasible}
use Rattle.dl_theory.specs.declared.edit.Edit.{Edit}
use Rattle.dl_theory.specs.declared.edit.Edit.TheVariants.{AddRule, AddFact, AddPair}
use Rattle.dl_theory.specs.Lists.{TheoryLists}

-- the literal of one letter
abbrev pub letter : ℕ → Literal
letter n = record { mode = None; atom = n ∷ []; positive = true }

abbrev pub a : Literal
a = letter 97

abbrev pub b : Literal
b = letter 98

abbrev pub c : Literal
c = letter 99

-- r and a digit
abbrev pub label : ℕ → List ℕ
label digit = 114 ∷ digit ∷ []

abbrev pub rule : ℕ → Literal → Rule
rule digit head = record { label = label digit; kind = Defeasible; body = []; head = head }

abbrev pub two_rules : TheoryLists
two_rules = record { facts = []; rules = rule 49 a ∷ rule 50 b ∷ []; pairs = [] }

-- >> a
abbrev pub fact_a : Edit
fact_a = AddFact a

-- r3: => c
abbrev pub rule_c : Edit
rule_c = AddRule (rule 51 c)

-- r1 > r2
abbrev pub pair_apart : Edit
pair_apart = AddPair (record { upper = label 49; lower = label 50 })

-- r1: => a once more
abbrev pub rule_again : Edit
rule_again = AddRule (rule 49 a)
