-- The families propagating and support together: their wires and gates.
use Rattle.std.specs.Prelude.{ℕ, zero, suc, Bool, true, false, cond, Option, None, Some, List, [], ◌∷◌, length, nat_lt}
use Rattle.dl_lit.specs.declared.literal.Family.{Family}
use Rattle.dl_lit.specs.declared.literal.Family.TheVariants.{Definite, Blocking, Propagating, Support}
use Rattle.dl_lit.specs.declared.literal.Tag.{Tag}
use Rattle.dl_graph.specs.Numbers.{NetLists}
use Rattle.dl_graph.specs.declared.link.Link.TheVariants.{Same, Uses, Backs, Opposes, Defends, Counters}
use Rattle.dl_fill.specs.declared.wire.Wire.{Wire}
use Rattle.dl_fill.specs.declared.basis.Basis.{Basis}
use Rattle.dl_fill.specs.declared.basis.Basis.TheVariants.{Prevailing, Failing, Sure, Unsure, Nothing}
use Rattle.dl_fill.specs.declared.wire.Gate.{Gate}
use Rattle.dl_fill.specs.declared.wire.Gate.TheVariants.{Every, Either, Never}
use Rattle.dl_fill.specs.Families.{FamilyTable}
use Rattle.dl_fill.specs.Filled.{either_kind}
use Rattle.dl_fill.specs.Before.{Before, tag_of, is_rule, attack_fails, attack_holds, outside_is_on, outside_is_off, on_gate, off_gate, plus_gate, minus_gate, some_gate, each_gate}

-- kinds of a literal: 0 concluded, 1 refuted, 2 supported, 3 unsupported in propagating; 4 concluded, 5 refuted in support.
-- Kinds of a rule: 6 on, 7 off, 8 answered, 9 on and unanswered in propagating, where attackers are judged by support;
-- 10 on, 11 off, 12 on and not countered, 13 off or countered in support, where a rule is countered by one that beats it and is
-- on in propagating
abbrev pub propagation_wires : List Wire
propagation_wires =
    record { from = 0; link = Uses; to = 6 }
    ∷ record { from = 1; link = Uses; to = 7 }
    ∷ record { from = 6; link = Backs; to = 2 }
    ∷ record { from = 7; link = Backs; to = 3 }
    ∷ record { from = 11; link = Same; to = 8 }
    ∷ record { from = 6; link = Defends; to = 8 }
    ∷ record { from = 10; link = Same; to = 9 }
    ∷ record { from = 7; link = Defends; to = 9 }
    ∷ record { from = 2; link = Same; to = 0 }
    ∷ record { from = 8; link = Opposes; to = 0 }
    ∷ record { from = 3; link = Same; to = 1 }
    ∷ record { from = 9; link = Opposes; to = 1 }
    ∷ record { from = 4; link = Uses; to = 10 }
    ∷ record { from = 5; link = Uses; to = 11 }
    ∷ record { from = 10; link = Same; to = 12 }
    ∷ record { from = 7; link = Counters; to = 12 }
    ∷ record { from = 11; link = Same; to = 13 }
    ∷ record { from = 6; link = Counters; to = 13 }
    ∷ record { from = 12; link = Backs; to = 4 }
    ∷ record { from = 13; link = Backs; to = 5 }
    ∷ []

-- the tags that the kinds of a literal stand for
abbrev pub propagation_tags : List (Option Tag)
propagation_tags =
    Some (tag_of true Propagating)
    ∷ Some (tag_of false Propagating)
    ∷ None
    ∷ None
    ∷ Some (tag_of true Support)
    ∷ Some (tag_of false Support)
    ∷ []

-- what their gates read of the definite family
abbrev pub propagation_bases : List Basis
propagation_bases = Prevailing ∷ Failing ∷ Nothing ∷ Nothing ∷ Sure ∷ Unsure ∷ []

-- the gate of a literal's node, by its kind
abbrev pub literal_gate : NetLists → (Tag → ℕ → Bool) → ℕ → ℕ → Gate
literal_gate N marked zero q = plus_gate (marked (tag_of true Definite) q) (attack_fails N marked q)
literal_gate N marked (suc zero) q = minus_gate (marked (tag_of false Definite) q) (attack_holds N marked q)
literal_gate N marked (suc (suc zero)) q = Either
literal_gate N marked (suc (suc (suc zero))) q = Every
literal_gate N marked (suc (suc (suc (suc zero)))) q = some_gate (marked (tag_of true Definite) q)
literal_gate N marked (suc (suc (suc (suc (suc zero))))) q = each_gate (marked (tag_of false Definite) q)
literal_gate N marked (suc (suc (suc (suc (suc (suc _)))))) q = Never

-- the gate of a rule's node, by its kind less 6
abbrev pub rule_gate : NetLists → Before → ℕ → ℕ → Gate
rule_gate N b zero r = on_gate (outside_is_on N b Propagating r)
rule_gate N b (suc zero) r = off_gate (outside_is_off N b Propagating r)
rule_gate N b (suc (suc zero)) r = Either
rule_gate N b (suc (suc (suc zero))) r = Every
rule_gate N b (suc (suc (suc (suc zero)))) r = on_gate (outside_is_on N b Support r)
rule_gate N b (suc (suc (suc (suc (suc zero))))) r = off_gate (outside_is_off N b Support r)
rule_gate N b (suc (suc (suc (suc (suc (suc zero)))))) r = Every
rule_gate N b (suc (suc (suc (suc (suc (suc (suc zero))))))) r = Either
rule_gate N b (suc (suc (suc (suc (suc (suc (suc (suc _)))))))) r = Never

-- the gate of a node, by its kind and place
abbrev pub propagation_gate : NetLists → Before → ℕ → ℕ → Gate
propagation_gate N b zero q = cond (nat_lt q (length N.names)) (literal_gate N b.marked 0 q) Never
propagation_gate N b (suc zero) q = cond (nat_lt q (length N.names)) (literal_gate N b.marked 1 q) Never
propagation_gate N b (suc (suc zero)) q = cond (nat_lt q (length N.names)) (literal_gate N b.marked 2 q) Never
propagation_gate N b (suc (suc (suc zero))) q = cond (nat_lt q (length N.names)) (literal_gate N b.marked 3 q) Never
propagation_gate N b (suc (suc (suc (suc zero)))) q = cond (nat_lt q (length N.names)) (literal_gate N b.marked 4 q) Never
propagation_gate N b (suc (suc (suc (suc (suc zero))))) q = cond (nat_lt q (length N.names)) (literal_gate N b.marked 5 q) Never
propagation_gate N b (suc (suc (suc (suc (suc (suc k)))))) r = cond (is_rule N r) (rule_gate N b k r) Never

-- the two families are filled together
abbrev pub propagation_fills : Family → Bool
propagation_fills Definite = false
propagation_fills Blocking = false
propagation_fills Propagating = true
propagation_fills Support = true

-- the kind of a literal's node for one of them and a sign
abbrev pub propagation_kind : Family → Bool → ℕ
propagation_kind Definite plus = 0
propagation_kind Blocking plus = 0
propagation_kind Propagating plus = either_kind 0 1 plus
propagation_kind Support plus = either_kind 4 5 plus

abbrev pub propagation_table : FamilyTable
propagation_table = record {
  width = 14;
  literals = 6;
  wires = propagation_wires;
  tags = propagation_tags;
  bases = propagation_bases;
  fills = propagation_fills;
  kind = propagation_kind;
  below = Definite ∷ [];
}
