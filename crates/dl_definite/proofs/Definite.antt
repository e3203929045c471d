-- What the nodes of the definite family mean, and that at the end of a run exactly what follows has fired.
use Rattle.std.proofs.Common.{◌≡◌, ℕ, zero, suc, ◌+◌, ◌*◌, ◌<◌, ◌≤◌, Bool, true, false, cond, Option, None, Some, List, [], ◌∷◌, length, get_or, inl, inr, sym, ap, refl, ◌∙◌, arith, true≢false}
use Rattle.std.specs.Prelude.{◌⊎◌, Contains, IsTrue, nat_lt, not, unwrap_or, MatchOption}
use Rattle.std.specs.Bool.{Decides}
use Rattle.std.proofs.lemmas.Bool.{ltb-true}
use Rattle.std.proofs.lemmas.Map.Made.{is_member-Decides}
use Rattle.dl_lit.specs.declared.literal.Tagged.{Tagged}
use Rattle.dl_lit.specs.declared.literal.Family.{Family}
use Rattle.dl_lit.specs.declared.literal.Family.TheVariants.{Definite, Blocking, Propagating, Support}
use Rattle.dl_lit.specs.Order.{literal_eq-Decides}
use Rattle.dl_theory.specs.declared.rule.Rule.{Rule}
use Rattle.dl_theory.specs.Lists.{IsStrictFor, is_strict}
use Rattle.dl_theory.specs.Conditions.{IsOn, IsOff, Condition}
use Rattle.dl_theory.specs.Derivations.{Follows}
use Rattle.dl_theory.specs.Verdicts.{needs}
use Rattle.dl_graph.specs.Counting.{times}
use Rattle.dl_graph.specs.Numbers.{NetLists, IsNumbered, HasRule, no_rule, literal_at, rule_at, number, proves_row, next, is_fact}
use Rattle.dl_graph.proofs.Slots.{has_rule, rule_within, row_of, row_none}
use Rattle.dl_graph.specs.declared.link.Link.TheVariants.{Proves}
use Rattle.dl_fill.specs.Wires.{inputs_at}
use Rattle.dl_fill.specs.Steps.{tag_at}
use Rattle.dl_fill.specs.Gates.{Passes}
use Rattle.dl_marks.specs.Marks.{Marking}
use Rattle.dl_graph.specs.Region.{Numbers}
use Rattle.dl_fill.specs.declared.wire.Gate.{Gate}
use Rattle.dl_fill.specs.declared.wire.Gate.TheVariants.{Never}
use Rattle.dl_fill.specs.Before.{Before, tag_of, is_rule, is_inside, before_of, IsExactOutside}
use Rattle.dl_fill.specs.Prepared.{is_touched_at}
use Rattle.dl_fill.specs.Touched.{Touches}
use Rattle.dl_fill.proofs.Touching.{heads_has}
use Rattle.dl_fill.specs.Meanings.{HasTag, IsOnAt, IsOffAt}
use Rattle.dl_fill.specs.Families.{IsSound}
use Rattle.dl_fill.proofs.Links.{proves_listing}
use Rattle.dl_fill.proofs.Gating.{IsGotOutside, known, open_gate, close_gate, at_rule, on_sound, off_sound, on_passes, off_passes}
use Rattle.dl_fill.proofs.Tables.{table_tested}
use Rattle.dl_fill.proofs.Ruled.{concluded_sound, concluded_passes, refuted_sound, refuted_passes}
use Rattle.dl_fill.proofs.Sound.{Means, MeansNode, Concludes, meant_at, sound}
use Rattle.dl_fill.proofs.Exact.{literal_touched, rule_touched}
use Rattle.dl_definite.specs.Definite.{definite_wires, definite_tags, rule_gate, definite_gate, definite_table, definite_fills as filled, definite_kind as kind}

-- what a node of a rule means, where `got` tells what counts as derived
abbrev pub part : NetLists → (Tagged → Type 0) → ℕ → ℕ → Type 0
part N got zero r = ⊥
part N got (suc zero) r = ⊥
part N got (suc (suc zero)) r = IsOnAt N got Definite r
part N got (suc (suc (suc zero))) r = IsOffAt N got Definite r
part N got (suc (suc (suc (suc _)))) r = ⊥

not_false : (b : Bool) → not b ≡ true → b ≡ false
not_false true e = absurd (true≢false (sym e))
not_false false e = refl

one_if_so : (s : Bool) (n : ℕ) → nat_lt 0 (length (cond s (n ∷ []) [])) ≡ s
one_if_so true n = refl
one_if_so false n = refl

module _ (N : NetLists) (r : ℕ) where
  -- where there is no rule, none is strict
  none_strict : get_or N.rules r None ≡ None → is_strict (rule_at N r).kind ≡ false
  none_strict none = ap (λ (o : Option Rule). is_strict (unwrap_or o no_rule).kind) none

  strict_there : is_strict (rule_at N r).kind ≡ true → HasRule N r
  strict_there e = elim (has_rule N r) [ inl there ↦ there | inr none ↦ absurd (true≢false (sym e ∙ none_strict none)) ]

  -- a rule is strict where it leads to a literal that it proves
  pub proves_where_strict : nat_lt 0 (length (next N Proves r)) ≡ is_strict (rule_at N r).kind
  proves_where_strict = elim (has_rule N r) [
    | inl there ↦
        ap (λ (xs : List ℕ). nat_lt 0 (length xs)) (row_of N (proves_row N) r there)
        ∙ one_if_so (is_strict (rule_at N r).kind) (number N (rule_at N r).head)
    | inr none ↦ ap (λ (xs : List ℕ). nat_lt 0 (length xs)) (row_none N (proves_row N) r none) ∙ sym (none_strict none)
  ]

  -- a gate that is open at a strict rule is so at a rule
  open_strict : (P : ℕ → Type 0) (g : Gate) (xs : List ℕ) → Passes P (cond (is_strict (rule_at N r).kind) g Never) xs → Passes P (at_rule N r g) xs
  open_strict P g xs h =
      let o = open_gate P (is_strict (rule_at N r).kind) g xs h in
      close_gate P (is_rule N r) g xs (strict_there o.0) o.1

  close_strict : (P : ℕ → Type 0) (g : Gate) (xs : List ℕ) → is_strict (rule_at N r).kind ≡ true → Passes P (at_rule N r g) xs
      → Passes P (cond (is_strict (rule_at N r).kind) g Never) xs
  close_strict P g xs e h = close_gate P (is_strict (rule_at N r).kind) g xs e (open_gate P (is_rule N r) g xs h).1

module _ (N : NetLists) (numbered : IsNumbered N) (m : Marking) (region : Numbers) where
  abbrev b : Before
  b = before_of m region

  abbrev inside : ℕ → Bool
  inside q = is_inside region.members q

  fact_decides : (q : ℕ) → Decides (is_fact N q) (Contains N.theory.facts (literal_at N q))
  fact_decides q = is_member-Decides literal_eq-Decides N.theory.facts (literal_at N q)

  -- what is no fact may be refuted
  no_fact : (q : ℕ) → (¬ Contains N.theory.facts (literal_at N q)) → not (is_fact N q) ≡ true
  no_fact q never = elim (known (is_fact N q)) [ inl e ↦ absurd (never ((fact_decides q).0 e)) | inr e ↦ ap not e ]

  -- a node whose gate is passed by nodes that have their meaning
  module _ (got : Tagged → Type 0) (outer : IsGotOutside N b Definite got) where
    abbrev Node : ℕ → Type 0
    Node y = MeansNode definite_table part N region.members got y

    at : (k i : ℕ) → k < 4 → Node (i * 4 + k) → Means definite_table part N region.members got k i
    at k i small m = meant_at definite_table part N region.members got k i small m

    pub concluded : (k i : ℕ) → (k < 2 → is_inside region.members i ≡ true)
        → Passes (MeansNode definite_table part N region.members got) (definite_gate N (before_of m region) k i) (inputs_at N (is_inside region.members) 4 definite_wires k i)
        → Concludes definite_table part N region.members got k i
    concluded zero q here h =
        let c = concluded_sound N numbered got Node 4 2 (omega arith) IsStrictFor Proves (proves_listing N numbered)
        (IsOn got Definite) q (is_fact N q) (Condition N.theory got true Definite (literal_at N q))
        (λ lt fact. inl ((fact_decides q).0 fact)) (λ some. inr some) (λ i m. at 2 i (omega arith) m) h in
        (here (omega arith), c.0, c.1)
    concluded (suc zero) q here h =
        let c = refuted_sound N numbered got Node 4 3 (omega arith) IsStrictFor Proves (proves_listing N numbered)
        (IsOff got Definite) q (not (is_fact N q)) (Condition N.theory got false Definite (literal_at N q))
        (λ lt e each. (λ fact. true≢false (sym ((fact_decides q).1 fact) ∙ not_false (is_fact N q) e), each)) (λ i m. at 3 i (omega arith) m) h in
        (here (omega arith), c.0, c.1)
    concluded (suc (suc zero)) r here h =
        on_sound N numbered b Definite got outer Node 4 0 (omega arith) r (λ i m. (at 0 i (omega arith) m).1)
        (open_strict N r Node (rule_gate N b 0 r) (inputs_at N inside 4 definite_wires 2 r) h)
    concluded (suc (suc (suc zero))) r here h =
        off_sound N numbered b Definite got outer Node 4 1 (omega arith) r (λ i m. (at 1 i (omega arith) m).1)
        (open_strict N r Node (rule_gate N b 1 r) (inputs_at N inside 4 definite_wires 3 r) h)
    concluded (suc (suc (suc (suc k)))) r here h =
        (open_gate Node (is_strict (rule_at N r).kind) Never
        (inputs_at N inside 4 definite_wires (suc (suc (suc (suc k)))) r) h).1

  -- what fires, where nodes have fired that are touched and whose gates are passed
  module _ (outside : IsExactOutside N (before_of m region) Definite) (rules : List ℕ) (touches : Touches N region.members rules)
      (places : ℕ) (names_fit : length N.names ≤ places) (rules_fit : length N.rules ≤ places) (Fired : ℕ → Type 0)
      (passes : (k i : ℕ) → k < 4 → i < places → is_touched_at 2 region.members rules k i ≡ true
      → Passes Fired (definite_gate N (before_of m region) k i) (inputs_at N (is_inside region.members) 4 definite_wires k i) → Fired (i * 4 + k))
      (got : Tagged → Type 0) (follows : (y : Tagged) → got y → Follows N.theory y)
      (fired : (p : Bool) (q : ℕ) → is_inside region.members q ≡ true → HasTag N got p Definite q → Fired (q * 4 + kind Definite p)) where
    member : (q : ℕ) → is_inside region.members q ≡ true → 0 < times q region.members
    member q here = ltb-true 0 (times q region.members) here

    on_fires : (r : ℕ) → 0 < times r rules → IsTrue (is_strict (rule_at N r).kind) → IsOnAt N got Definite r → Fired (r * 4 + 2)
    on_fires r t strict m =
        passes 2 r (omega arith) (omega (arith, rule_within N r m.0, rules_fit)) (rule_touched 2 region.members rules 2 r (omega arith) t)
        (close_strict N r Fired (rule_gate N b 0 r)
        (inputs_at N inside 4 definite_wires 2 r) strict
        (on_passes N numbered b Definite outside Fired 4 0 (omega arith) r got follows m (fired true)))

    off_fires : (r : ℕ) → 0 < times r rules → IsTrue (is_strict (rule_at N r).kind) → IsOffAt N got Definite r → Fired (r * 4 + 3)
    off_fires r t strict m =
        passes 3 r (omega arith) (omega (arith, rule_within N r m.0, rules_fit)) (rule_touched 2 region.members rules 3 r (omega arith) t)
        (close_strict N r Fired (rule_gate N b 1 r)
        (inputs_at N inside 4 definite_wires 3 r) strict
        (off_passes N numbered b Definite outside Fired 4 1 (omega arith) r got follows m (fired false)))

    strict_touched : (q : ℕ) → is_inside region.members q ≡ true → q < length N.names → (r : ℕ) → HasRule N r → IsStrictFor (literal_at N q) (rule_at N r) → 0 < times r rules
    strict_touched q here lt r inside strict = touches.for_members q (member q here) r (heads_has N q r inside (ap (number N) strict.0 ∙ numbered.distinct q lt))

    pub saturates : (f : Family) → IsTrue (filled f) → (p : Bool) (q : ℕ) → is_inside region.members q ≡ true → q < length N.names
        → Condition N.theory got p f (literal_at N q) → Fired (q * 4 + kind f p)
    saturates Definite e true q here lt h =
        passes 0 q (omega arith) (omega (arith, lt, names_fit)) (literal_touched 2 region.members rules 0 q (omega arith) (member q here))
        (concluded_passes N numbered got Fired 4 2 (omega arith) IsStrictFor Proves (proves_listing N numbered) (IsOn got Definite) q
        (is_fact N q) lt (elim h [ inl fact ↦ inl ((fact_decides q).1 fact) | inr some ↦ inr some ])
        (λ r strict m. on_fires r (strict_touched q here lt r m.0 strict) strict.1 m))
    saturates Definite e false q here lt h =
        passes 1 q (omega arith) (omega (arith, lt, names_fit)) (literal_touched 2 region.members rules 1 q (omega arith) (member q here))
        (refuted_passes N numbered got Fired 4 3 (omega arith) IsStrictFor Proves (proves_listing N numbered) (IsOff got Definite) q
        (not (is_fact N q)) lt (no_fact q h.0) h.1
        (λ r strict m. off_fires r (strict_touched q here lt r m.0 strict) strict.1 m))
    saturates Blocking e p q here lt h = absurd (true≢false (sym e))
    saturates Propagating e p q here lt h = absurd (true≢false (sym e))
    saturates Support e p q here lt h = absurd (true≢false (sym e))

tags : (f : Family) → IsTrue (filled f) → (plus : Bool) → tag_at definite_tags (kind f plus) ≡ Some (tag_of plus f)
tags Definite e true = refl
tags Definite e false = refl
tags Blocking e plus = absurd (true≢false (sym e))
tags Propagating e plus = absurd (true≢false (sym e))
tags Support e plus = absurd (true≢false (sym e))

own : (k : ℕ) → MatchOption (tag_at definite_tags k) (Unit {0}) (λ x. IsTrue (filled x.family) × (kind x.family x.plus ≡ k))
own zero = (refl, refl)
own (suc zero) = (refl, refl)
own (suc (suc k)) = tt

needed : (f g : Family) → IsTrue (filled f) → Contains [] g ⊎ IsTrue (filled g) → Contains (needs f) g
needed Definite g e (inl m) = absurd (omega (arith, m.1))
needed Definite Definite e (inr h) = (0, omega arith, refl)
needed Definite Blocking e (inr h) = absurd (true≢false (sym h))
needed Definite Propagating e (inr h) = absurd (true≢false (sym h))
needed Definite Support e (inr h) = absurd (true≢false (sym h))
needed Blocking g e h = absurd (true≢false (sym e))
needed Propagating g e h = absurd (true≢false (sym e))
needed Support g e h = absurd (true≢false (sym e))

pub definite_sound : IsSound definite_table definite_gate
definite_sound =
    sound definite_table part definite_gate
    (record {
      table = table_tested 4 2 definite_wires (omega arith) (omega arith) refl refl;
      few = omega arith;
      bodies = refl;
      tags = tags;
      own = own;
      needed = needed;
      apart = λ f m. absurd (omega (arith, m.1));
      base = inl refl;
      keeps = λ N numbered m region right got outer k i here reads h. concluded N numbered m region got (outer Definite refl) k i here h;
      saturates = λ N numbered m region right outside rules touches places names_fit rules_fit Fired passes got follows fired.
          saturates N numbered m region (outside Definite refl) rules touches places names_fit rules_fit Fired passes got follows (fired Definite refl);
    })
