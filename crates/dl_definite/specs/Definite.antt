-- The definite family: its wires and gates.
use Rattle.std.specs.Prelude.{ℕ, zero, suc, Bool, true, false, not, cond, Option, Some, List, [], ◌∷◌, length, nat_lt}
use Rattle.dl_lit.specs.declared.literal.Family.{Family}
use Rattle.dl_lit.specs.declared.literal.Family.TheVariants.{Definite, Blocking, Propagating, Support}
use Rattle.dl_lit.specs.declared.literal.Tag.{Tag}
use Rattle.dl_theory.specs.Lists.{is_strict}
use Rattle.dl_graph.specs.Numbers.{NetLists, rule_at, is_fact}
use Rattle.dl_graph.specs.declared.link.Link.TheVariants.{Uses, Proves}
use Rattle.dl_fill.specs.declared.wire.Wire.{Wire}
use Rattle.dl_fill.specs.declared.wire.Gate.{Gate}
use Rattle.dl_fill.specs.declared.wire.Gate.TheVariants.{Never}
use Rattle.dl_fill.specs.Families.{FamilyTable}
use Rattle.dl_fill.specs.Filled.{either_kind}
use Rattle.dl_fill.specs.Before.{Before, tag_of, outside_is_on, outside_is_off, on_gate, off_gate, some_gate, each_gate}

-- kinds: 0 concluded, 1 refuted (of a literal); 2 on, 3 off (of a rule)
abbrev pub definite_wires : List Wire
definite_wires =
    record { from = 0; link = Uses; to = 2 }
    ∷ record { from = 1; link = Uses; to = 3 }
    ∷ record { from = 2; link = Proves; to = 0 }
    ∷ record { from = 3; link = Proves; to = 1 }
    ∷ []

-- the tags that the kinds of a literal stand for
abbrev pub definite_tags : List (Option Tag)
definite_tags = Some (tag_of true Definite) ∷ Some (tag_of false Definite) ∷ []

-- the gate of a rule's node, by its kind less 2
abbrev pub rule_gate : NetLists → Before → ℕ → ℕ → Gate
rule_gate N b zero r = on_gate (outside_is_on N b Definite r)
rule_gate N b (suc zero) r = off_gate (outside_is_off N b Definite r)
rule_gate N b (suc (suc _)) r = Never

-- the gate of a node, by its kind and place: a literal is concluded at once where it is a fact, and never refuted there; and
-- what is no strict rule leads to no node, so it never fires
abbrev pub definite_gate : NetLists → Before → ℕ → ℕ → Gate
definite_gate N b zero q = cond (nat_lt q (length N.names)) (some_gate (is_fact N q)) Never
definite_gate N b (suc zero) q = cond (nat_lt q (length N.names)) (each_gate (not (is_fact N q))) Never
definite_gate N b (suc (suc k)) r = cond (is_strict (rule_at N r).kind) (rule_gate N b k r) Never

-- the family alone is filled
abbrev pub definite_fills : Family → Bool
definite_fills Definite = true
definite_fills Blocking = false
definite_fills Propagating = false
definite_fills Support = false

-- the kind of a literal's node for a sign
abbrev pub definite_kind : Family → Bool → ℕ
definite_kind f plus = either_kind 0 1 plus

abbrev pub definite_table : FamilyTable
definite_table = record {
  width = 4;
  literals = 2;
  wires = definite_wires;
  tags = definite_tags;
  bases = [];
  fills = definite_fills;
  kind = definite_kind;
  below = [];
}
