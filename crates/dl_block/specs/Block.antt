-- The defeasible family, where ambiguity blocks: its wires and gates.
use Rattle.std.specs.Prelude.{ℕ, zero, suc, Bool, true, false, cond, Option, Some, List, [], ◌∷◌, length, nat_lt}
use Rattle.dl_lit.specs.declared.literal.Family.{Family}
use Rattle.dl_lit.specs.declared.literal.Family.TheVariants.{Definite, Blocking, Propagating, Support}
use Rattle.dl_lit.specs.declared.literal.Tag.{Tag}
use Rattle.dl_graph.specs.Numbers.{NetLists}
use Rattle.dl_graph.specs.declared.link.Link.TheVariants.{Same, Uses, Backs, Opposes, Defends}
use Rattle.dl_fill.specs.declared.wire.Wire.{Wire}
use Rattle.dl_fill.specs.declared.basis.Basis.{Basis}
use Rattle.dl_fill.specs.declared.basis.Basis.TheVariants.{Prevailing, Failing}
use Rattle.dl_fill.specs.declared.wire.Gate.{Gate}
use Rattle.dl_fill.specs.declared.wire.Gate.TheVariants.{Every, Either, Never}
use Rattle.dl_fill.specs.Families.{FamilyTable}
use Rattle.dl_fill.specs.Filled.{either_kind}
use Rattle.dl_fill.specs.Before.{Before, tag_of, is_rule, attack_fails, attack_holds, outside_is_on, outside_is_off, on_gate, off_gate, plus_gate, minus_gate}

-- kinds: 0 concluded, 1 refuted, 2 supported, 3 unsupported (of a literal);
-- 4 on, 5 off, 6 answered, 7 on and unanswered (of a rule)
abbrev pub block_wires : List Wire
block_wires =
    record { from = 0; link = Uses; to = 4 }
    ∷ record { from = 1; link = Uses; to = 5 }
    ∷ record { from = 4; link = Backs; to = 2 }
    ∷ record { from = 5; link = Backs; to = 3 }
    ∷ record { from = 5; link = Same; to = 6 }
    ∷ record { from = 4; link = Defends; to = 6 }
    ∷ record { from = 4; link = Same; to = 7 }
    ∷ record { from = 5; link = Defends; to = 7 }
    ∷ record { from = 2; link = Same; to = 0 }
    ∷ record { from = 6; link = Opposes; to = 0 }
    ∷ record { from = 3; link = Same; to = 1 }
    ∷ record { from = 7; link = Opposes; to = 1 }
    ∷ []

-- the tags that the kinds of a literal stand for
abbrev pub block_tags : List (Option Tag)
block_tags = Some (tag_of true Blocking) ∷ Some (tag_of false Blocking) ∷ []

-- what their gates read of the definite family
abbrev pub block_bases : List Basis
block_bases = Prevailing ∷ Failing ∷ []

-- the gate of a literal's node, by its kind
abbrev pub literal_gate : NetLists → (Tag → ℕ → Bool) → ℕ → ℕ → Gate
literal_gate N marked zero q = plus_gate (marked (tag_of true Definite) q) (attack_fails N marked q)
literal_gate N marked (suc zero) q = minus_gate (marked (tag_of false Definite) q) (attack_holds N marked q)
literal_gate N marked (suc (suc zero)) q = Either
literal_gate N marked (suc (suc (suc zero))) q = Every
literal_gate N marked (suc (suc (suc (suc _)))) q = Never

-- the gate of a rule's node, by its kind less 4
abbrev pub rule_gate : NetLists → Before → ℕ → ℕ → Gate
rule_gate N b zero r = on_gate (outside_is_on N b Blocking r)
rule_gate N b (suc zero) r = off_gate (outside_is_off N b Blocking r)
rule_gate N b (suc (suc zero)) r = Either
rule_gate N b (suc (suc (suc zero))) r = Every
rule_gate N b (suc (suc (suc (suc _)))) r = Never

-- the gate of a node, by its kind and place
abbrev pub block_gate : NetLists → Before → ℕ → ℕ → Gate
block_gate N b zero q = cond (nat_lt q (length N.names)) (literal_gate N b.marked 0 q) Never
block_gate N b (suc zero) q = cond (nat_lt q (length N.names)) (literal_gate N b.marked 1 q) Never
block_gate N b (suc (suc zero)) q = cond (nat_lt q (length N.names)) (literal_gate N b.marked 2 q) Never
block_gate N b (suc (suc (suc zero))) q = cond (nat_lt q (length N.names)) (literal_gate N b.marked 3 q) Never
block_gate N b (suc (suc (suc (suc k)))) r = cond (is_rule N r) (rule_gate N b k r) Never

-- the family alone is filled
abbrev pub block_fills : Family → Bool
block_fills Definite = false
block_fills Blocking = true
block_fills Propagating = false
block_fills Support = false

-- the kind of a literal's node for a sign
abbrev pub block_kind : Family → Bool → ℕ
block_kind f plus = either_kind 0 1 plus

abbrev pub block_table : FamilyTable
block_table = record {
  width = 8;
  literals = 4;
  wires = block_wires;
  tags = block_tags;
  bases = block_bases;
  fills = block_fills;
  kind = block_kind;
  below = Definite ∷ [];
}
