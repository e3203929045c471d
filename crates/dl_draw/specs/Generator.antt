-- The theory and the calls that are generated from a number. Draws are made in the order in which they stand here.
use Rattle.std.specs.Prelude.{ℕ, zero, suc, ◌+◌, ◌-◌, ◌*◌, ◌/◌, ◌%◌, ◌^◌, ◌==◌, min, Bool, true, not, if◌then◌else◌, List, [], ◌∷◌, ◌++◌, fold, flat_map, None, decimal}
use Rattle.dl_lit.specs.declared.literal.Literal.{Literal}
use Rattle.dl_theory.specs.declared.rule.Kind.{Kind}
use Rattle.dl_theory.specs.declared.rule.Kind.TheVariants.{Strict, Defeasible, Defeater}
use Rattle.dl_theory.specs.declared.rule.Rule.{Rule}
use Rattle.dl_theory.specs.declared.rule.Pair.{Pair}
use Rattle.dl_theory.specs.declared.edit.Edit as edit
use Rattle.dl_theory.specs.declared.edit.Edit.TheVariants.{AddRule, DropRule, AddFact, DropFact, AddPair}
use Rattle.dl_theory.specs.Lists.{TheoryLists, no_lists}
use Rattle.dl_calls.specs.declared.call.Call.{Call}
use Rattle.dl_calls.specs.declared.call.Call.TheVariants.{Enrol, Edit, Publish}

-- what is drawn from a state, and the state after it
pub record Drawn (A : Type 0) : Type 0 where
  pub value : A
  pub state : ℕ

-- a draw: the next state, and a number below m that it gives
unfoldable pub draw : ℕ → ℕ → Drawn ℕ
draw m x =
    let next = (x * 6364136223846793005 + 1442695040888963407) % 2 ^ 64 in
    record { value = (next / 2 ^ 33) % m; state = next }

-- what is drawn for each number below n, from 0 on, one after another
abbrev pub draw_each : {A : Type 0} → (ℕ → ℕ → Drawn A) → ℕ → ℕ → Drawn (List A)
draw_each one zero x = record { value = []; state = x }
draw_each one (suc n) x =
    let before = draw_each one n x in
    let last = one n before.state in
    record { value = before.value ++ last.value ∷ []; state = last.state }

-- the names `p0`, `r0` and `n0`, and so on: of atoms, of the theory's rules, and of rules that are added later
abbrev pub atom_name : ℕ → List ℕ
atom_name n = 112 ∷ decimal n

abbrev pub rule_label : ℕ → List ℕ
rule_label n = 114 ∷ decimal n

abbrev pub added_label : ℕ → List ℕ
added_label n = 110 ∷ decimal n

-- an atom with a number, or its complement
abbrev pub literal_at : ℕ → Bool → Literal
literal_at n sign = record { mode = None; atom = atom_name n; positive = sign }

-- Atoms stand in blocks of 16, of which the last may be shorter: where the block of an atom begins, and how many it has.
abbrev pub block_begin : ℕ → ℕ
block_begin i = 16 * (i / 16)

abbrev pub block_width : ℕ → ℕ → ℕ
block_width size i = min 16 (size - block_begin i)

-- a literal of a body: an atom of the block of i, and its sign
unfoldable pub draw_literal : ℕ → ℕ → ℕ → Drawn Literal
draw_literal size i x =
    let j = draw (block_width size i) x in
    let sign = draw 2 j.state in
    record { value = literal_at (block_begin i + j.value) (not (sign.value == 0)); state = sign.state }

-- a body of up to two of them
unfoldable pub draw_body : ℕ → ℕ → ℕ → Drawn (List Literal)
draw_body size i x =
    let count = draw 3 x in
    draw_each (λ _. draw_literal size i) count.value count.state

-- one number of eight makes a rule strict, and one a defeater
abbrev pub kind_of : ℕ → Kind
kind_of n = if n == 0 then Strict else (if n == 1 then Defeater else Defeasible)

-- a rule for atom i
unfoldable pub draw_rule : ℕ → List ℕ → ℕ → ℕ → Drawn Rule
draw_rule size name i x =
    let number = draw 8 x in
    let sign = draw 2 number.state in
    let literals = draw_body size i sign.state in
    record {
      value = record {
        label = name;
        kind = kind_of number.value;
        body = literals.value;
        head = literal_at i (not (sign.value == 0));
      };
      state = literals.state;
    }

-- the three rules for atom i
unfoldable pub draw_rules : ℕ → ℕ → ℕ → Drawn (List Rule)
draw_rules size i x =
    let first = draw_rule size (rule_label (3 * i)) i x in
    let second = draw_rule size (rule_label (3 * i + 1)) i first.state in
    let third = draw_rule size (rule_label (3 * i + 2)) i second.state in
    record { value = first.value ∷ second.value ∷ third.value ∷ []; state = third.state }

-- one number of eight makes atom i a fact
unfoldable pub draw_facts : ℕ → ℕ → Drawn (List Literal)
draw_facts i x =
    let chance = draw 8 x in
    record { value = if chance.value == 0 then literal_at i true ∷ [] else []; state = chance.state }

-- the rule with one number is above the rule with another
abbrev pub above : ℕ → ℕ → Pair
above m n = record { upper = rule_label m; lower = rule_label n }

-- Of the first two rules for atom i one is above the other, and the third may be above the first.
unfoldable pub draw_pairs : ℕ → ℕ → Drawn (List Pair)
draw_pairs i x =
    let way = draw 2 x in
    let more = draw 2 way.state in
    record {
      value =
          (if way.value == 0 then above (3 * i) (3 * i + 1) else above (3 * i + 1) (3 * i))
          ∷ (if more.value == 0 then above (3 * i + 2) (3 * i) ∷ [] else []);
      state = more.state;
    }

-- all that there is for atom i
unfoldable pub draw_part : ℕ → ℕ → ℕ → Drawn TheoryLists
draw_part size i x =
    let rules = draw_rules size i x in
    let facts = draw_facts i rules.state in
    let pairs = draw_pairs i facts.state in
    record { value = record { facts = facts.value; rules = rules.value; pairs = pairs.value }; state = pairs.state }

-- lists behind lists
abbrev pub beside : TheoryLists → TheoryLists → TheoryLists
beside T U = record { facts = T.facts ++ U.facts; rules = T.rules ++ U.rules; pairs = T.pairs ++ U.pairs }

-- what there is for each atom, behind what there is for those before it
unfoldable pub draw_lists : ℕ → ℕ → Drawn TheoryLists
draw_lists size x =
    let parts = draw_each (draw_part size) size x in
    record { value = fold beside no_lists parts.value; state = parts.state }

abbrev pub generated_theory : ℕ → ℕ → TheoryLists
generated_theory seed size = (draw_lists size seed).value

-- an edit of each of the four kinds; k is its number
abbrev pub draw_dropped_rule : ℕ → ℕ → Drawn edit.Edit
draw_dropped_rule size x = let j = draw (3 * size) x in record { value = DropRule (rule_label j.value); state = j.state }

abbrev pub draw_added_rule : ℕ → ℕ → ℕ → Drawn edit.Edit
draw_added_rule size k x =
    let i = draw size x in
    let rule = draw_rule size (added_label k) i.value i.state in
    record { value = AddRule rule.value; state = rule.state }

abbrev pub draw_added_fact : ℕ → ℕ → Drawn edit.Edit
draw_added_fact size x = let j = draw size x in record { value = AddFact (literal_at j.value true); state = j.state }

abbrev pub draw_dropped_fact : ℕ → ℕ → Drawn edit.Edit
draw_dropped_fact size x = let j = draw size x in record { value = DropFact (literal_at j.value true); state = j.state }

-- the edit with number k
unfoldable pub draw_edit : ℕ → ℕ → ℕ → Drawn edit.Edit
draw_edit size k x =
    let choice = draw 4 x in
    if choice.value == 0 then draw_dropped_rule size choice.state
    else (if choice.value == 1 then draw_added_rule size k choice.state
    else (if choice.value == 2 then draw_added_fact size choice.state else draw_dropped_fact size choice.state))

-- the call that makes it, and a publication behind each 64th
unfoldable pub draw_calls : ℕ → ℕ → ℕ → Drawn (List Call)
draw_calls size k x =
    let one = draw_edit size k x in
    record { value = Edit one.value ∷ (if (k + 1) % 64 == 0 then Publish ∷ [] else []); state = one.state }

-- an enrolment, the calls for each number from where the theory left the state, and a last publication
abbrev pub generated_calls : ℕ → ℕ → List Call
generated_calls seed size =
    let all = draw_each (draw_calls size) size (draw_lists size seed).state in
    Enrol ∷ (flat_map (λ calls. calls) all.value ++ Publish ∷ [])

-- a call that adds no pair
abbrev pub AddsNoPair : Call → Type 0
AddsNoPair (Edit (AddPair p)) = ⊥
AddsNoPair _ = Unit {0}
