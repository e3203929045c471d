-- What the nodes of the defeasible family mean, and that at the end of a run exactly what follows has fired.
use Rattle.std.proofs.Common.{◌≡◌, ℕ, zero, suc, ◌+◌, ◌*◌, ◌<◌, ◌≤◌, Bool, true, false, Some, List, [], ◌∷◌, length, inl, inr, sym, subst, ap, refl, arith, true≢false}
use Rattle.std.specs.Prelude.{◌⊎◌, Contains, IsTrue, MatchOption}
use Rattle.dl_base.proofs.Members.{only}
use Rattle.dl_lit.specs.declared.literal.Tagged.{Tagged}
use Rattle.dl_lit.specs.declared.literal.Family.{Family}
use Rattle.dl_lit.specs.declared.literal.Family.TheVariants.{Definite, Blocking, Propagating, Support}
use Rattle.dl_lit.specs.Literal.{tagged}
use Rattle.dl_theory.specs.Conditions.{Condition}
use Rattle.dl_theory.specs.Derivations.{Follows}
use Rattle.dl_theory.specs.Verdicts.{needs}
use Rattle.dl_graph.specs.Counting.{times}
use Rattle.dl_graph.specs.Numbers.{NetLists, IsNumbered, HasRule, literal_at, rule_at}
use Rattle.dl_graph.proofs.Slots.{rule_within}
use Rattle.dl_fill.specs.declared.wire.Gate.TheVariants.{Never}
use Rattle.dl_fill.specs.Wires.{inputs_at}
use Rattle.dl_fill.specs.Reads.{Reads, basis_at}
use Rattle.dl_fill.specs.Steps.{tag_at}
use Rattle.dl_fill.specs.Gates.{Passes}
use Rattle.dl_marks.specs.Marks.{Marking}
use Rattle.dl_graph.specs.Region.{Numbers}
use Rattle.dl_theory.specs.Lists.{Supports, Opposes}
use Rattle.std.proofs.lemmas.Bool.{ltb-true}
use Rattle.dl_fill.specs.Rivals.{Defending}
use Rattle.dl_fill.specs.Before.{Before, tag_of, is_rule, is_inside, before_of, IsExact, IsExactOutside}
use Rattle.dl_fill.specs.Prepared.{is_touched_at}
use Rattle.dl_fill.specs.Touched.{Touches}
use Rattle.dl_fill.proofs.Attacks.{attack_meets}
use Rattle.dl_fill.proofs.Touching.{supports_touched, opposes_touched}
use Rattle.dl_fill.specs.Meanings.{HasTag, IsOnAt, IsOffAt, IsSupported, IsUnsupported, IsAnswered, IsUnanswered}
use Rattle.dl_fill.specs.Families.{IsSound}
use Rattle.dl_graph.specs.declared.link.Link.TheVariants.{Defends}
use Rattle.dl_fill.proofs.Links.{defends_listing}
use Rattle.dl_fill.proofs.Gating.{IsGotOutside, open_gate, on_sound, off_sound, on_passes, off_passes, supported_sound, supported_passes, unsupported_sound, unsupported_passes, answered_sound, answered_passes, unanswered_sound, unanswered_passes}
use Rattle.dl_fill.proofs.Concluding.{plus_sound, minus_sound, plus_passes, minus_passes}
use Rattle.dl_fill.proofs.Tables.{table_tested}
use Rattle.dl_fill.proofs.Sound.{Means, MeansNode, Concludes, meant_at, sound}
use Rattle.dl_fill.proofs.Exact.{literal_touched, rule_touched}
use Rattle.dl_block.specs.Block.{block_wires, block_tags, block_bases, block_gate, block_table, block_fills as filled, block_kind as kind}

-- what a node that stands for no tag means, where `got` tells what counts as derived
abbrev pub part : NetLists → (Tagged → Type 0) → ℕ → ℕ → Type 0
part N got zero q = ⊥
part N got (suc zero) q = ⊥
part N got (suc (suc zero)) q = IsSupported N got Blocking q
part N got (suc (suc (suc zero))) q = IsUnsupported N got Blocking q
part N got (suc (suc (suc (suc zero)))) r = IsOnAt N got Blocking r
part N got (suc (suc (suc (suc (suc zero))))) r = IsOffAt N got Blocking r
part N got (suc (suc (suc (suc (suc (suc zero)))))) u = IsAnswered N got Blocking Blocking u
part N got (suc (suc (suc (suc (suc (suc (suc zero))))))) u = IsUnanswered N got Blocking Blocking u
part N got (suc (suc (suc (suc (suc (suc (suc (suc _)))))))) i = ⊥

module _ (N : NetLists) (numbered : IsNumbered N) (m : Marking) (region : Numbers) (definite : IsExact N (before_of m region) Definite) where
  abbrev b : Before
  b = before_of m region

  abbrev inside : ℕ → Bool
  inside q = is_inside region.members q

  -- a node whose gate is passed by nodes that have their meaning
  module _ (got : Tagged → Type 0) (outer : IsGotOutside N b Blocking got) where
    abbrev Node : ℕ → Type 0
    Node y = MeansNode block_table part N region.members got y

    at : (k i : ℕ) → k < 8 → Node (i * 8 + k) → Means block_table part N region.members got k i
    at k i small m = meant_at block_table part N region.members got k i small m

    pub concluded : (k i : ℕ) → (k < 4 → is_inside region.members i ≡ true)
        → Reads N (before_of m region) (λ plus c. got (tagged plus Definite c)) i (basis_at block_bases k)
        → Passes (MeansNode block_table part N region.members got) (block_gate N (before_of m region) k i) (inputs_at N (is_inside region.members) 8 block_wires k i)
        → Concludes block_table part N region.members got k i
    concluded zero q here reads h =
        let in_region : is_inside region.members q ≡ true = here (omega arith) in
        let c = plus_sound N numbered b definite Blocking Blocking (λ got q h. h) (λ got q h. h) got Node 8 2 6 (omega arith) (omega arith) q
        (λ lt. reads lt in_region) (λ i m. at 2 i (omega arith) m) (λ u m. at 6 u (omega arith) m) h in
        (in_region, c.0, c.1)
    concluded (suc zero) q here reads h =
        let in_region : is_inside region.members q ≡ true = here (omega arith) in
        let c = minus_sound N numbered b definite Blocking Blocking (λ got q h. h) (λ got q h. h) got Node 8 3 7 (omega arith) (omega arith) q
        (λ lt. reads lt in_region) (λ i m. at 3 i (omega arith) m) (λ u m. at 7 u (omega arith) m) h in
        (in_region, c.0, c.1)
    concluded (suc (suc zero)) q here reads h = supported_sound N numbered got Node 8 Blocking 4 (omega arith) q (λ i m. at 4 i (omega arith) m) h
    concluded (suc (suc (suc zero))) q here reads h = unsupported_sound N numbered got Node 8 Blocking 5 (omega arith) q (λ i m. at 5 i (omega arith) m) h
    concluded (suc (suc (suc (suc zero)))) r here reads h =
        on_sound N numbered b Blocking got outer Node 8 0 (omega arith) r (λ i m. (at 0 i (omega arith) m).1) h
    concluded (suc (suc (suc (suc (suc zero))))) r here reads h =
        off_sound N numbered b Blocking got outer Node 8 1 (omega arith) r (λ i m. (at 1 i (omega arith) m).1) h
    concluded (suc (suc (suc (suc (suc (suc zero)))))) u here reads h =
        answered_sound N numbered got Node 8 (Defending N.theory) Defends (defends_listing N numbered) Blocking Blocking 5 4 (omega arith) (omega arith) u
        (λ i m. at 5 i (omega arith) m) (λ i m. at 4 i (omega arith) m) h
    concluded (suc (suc (suc (suc (suc (suc (suc zero))))))) u here reads h =
        unanswered_sound N numbered got Node 8 (Defending N.theory) Defends (defends_listing N numbered) Blocking Blocking 4 5 (omega arith) (omega arith) u
        (λ i m. at 4 i (omega arith) m) (λ i m. at 5 i (omega arith) m) h
    concluded (suc (suc (suc (suc (suc (suc (suc (suc k)))))))) i here reads h =
        (open_gate Node (is_rule N i) Never
        (inputs_at N inside 8 block_wires (suc (suc (suc (suc (suc (suc (suc (suc k)))))))) i) h).1

  -- what fires, where nodes have fired that are touched and whose gates are passed
  module _ (outside : IsExactOutside N (before_of m region) Blocking) (rules : List ℕ) (touches : Touches N region.members rules)
      (places : ℕ) (names_fit : length N.names ≤ places) (rules_fit : length N.rules ≤ places) (Fired : ℕ → Type 0)
      (passes : (k i : ℕ) → k < 8 → i < places → is_touched_at 4 region.members rules k i ≡ true
      → Passes Fired (block_gate N (before_of m region) k i) (inputs_at N (is_inside region.members) 8 block_wires k i) → Fired (i * 8 + k))
      (got : Tagged → Type 0) (follows : (y : Tagged) → got y → Follows N.theory y)
      (fired : (p : Bool) (q : ℕ) → is_inside region.members q ≡ true → HasTag N got p Blocking q → Fired (q * 8 + kind Blocking p)) where
    member : (q : ℕ) → is_inside region.members q ≡ true → 0 < times q region.members
    member q here = ltb-true 0 (times q region.members) here

    on_fires : (r : ℕ) → 0 < times r rules → IsOnAt N got Blocking r → Fired (r * 8 + 4)
    on_fires r t m =
        passes 4 r (omega arith) (omega (arith, rule_within N r m.0, rules_fit)) (rule_touched 4 region.members rules 4 r (omega arith) t)
        (on_passes N numbered b Blocking outside Fired 8 0 (omega arith) r got follows m (fired true))

    off_fires : (r : ℕ) → 0 < times r rules → IsOffAt N got Blocking r → Fired (r * 8 + 5)
    off_fires r t m =
        passes 5 r (omega arith) (omega (arith, rule_within N r m.0, rules_fit)) (rule_touched 4 region.members rules 5 r (omega arith) t)
        (off_passes N numbered b Blocking outside Fired 8 1 (omega arith) r got follows m (fired false))

    -- at a member of the region
    module _ (q : ℕ) (here : is_inside region.members q ≡ true) (lt : q < length N.names) where
      supporter : (r : ℕ) → HasRule N r → Supports (literal_at N q) (rule_at N r) → 0 < times r rules
      supporter r inside h = supports_touched N numbered region.members rules touches q (member q here) lt r inside h

      attacker : (u : ℕ) → HasRule N u → Opposes N.theory (literal_at N q) (rule_at N u) → 0 < times u rules
      attacker u inside h = opposes_touched N numbered region.members rules touches q (member q here) lt u inside h

      defender : (u t : ℕ) → HasRule N t → Opposes N.theory (literal_at N q) (rule_at N u) → Defending N.theory (rule_at N u) (rule_at N t) → 0 < times t rules
      defender u t inside o d =
          supporter t inside (attack_meets N.theory (rule_at N t).head (literal_at N q) (rule_at N u).head d.1 o, d.2)

      supported_fires : IsSupported N got Blocking q → Fired (q * 8 + 2)
      supported_fires m =
          passes 2 q (omega arith) (omega (arith, m.0, names_fit)) (literal_touched 4 region.members rules 2 q (omega arith) (member q here))
          (supported_passes N numbered got Fired 8 Blocking 4 (omega arith) q m (λ r supports on. on_fires r (supporter r on.0 supports) on))

      unsupported_fires : IsUnsupported N got Blocking q → Fired (q * 8 + 3)
      unsupported_fires m =
          passes 3 q (omega arith) (omega (arith, m.0, names_fit)) (literal_touched 4 region.members rules 3 q (omega arith) (member q here))
          (unsupported_passes N numbered got Fired 8 Blocking 5 (omega arith) q m (λ r supports off. off_fires r (supporter r off.0 supports) off))

      answered_fires : (u : ℕ) → Opposes N.theory (literal_at N q) (rule_at N u) → IsAnswered N got Blocking Blocking u → Fired (u * 8 + 6)
      answered_fires u o m =
          passes 6 u (omega arith) (omega (arith, rule_within N u m.0, rules_fit)) (rule_touched 4 region.members rules 6 u (omega arith) (attacker u m.0 o))
          (answered_passes N numbered got Fired 8 (Defending N.theory) Defends (defends_listing N numbered) Blocking Blocking 5 4 (omega arith) (omega arith) u m (off_fires u (attacker u m.0 o))
          (λ t defends on. on_fires t (defender u t on.0 o defends) on))

      unanswered_fires : (u : ℕ) → Opposes N.theory (literal_at N q) (rule_at N u) → IsUnanswered N got Blocking Blocking u → Fired (u * 8 + 7)
      unanswered_fires u o m =
          passes 7 u (omega arith) (omega (arith, rule_within N u m.0, rules_fit)) (rule_touched 4 region.members rules 7 u (omega arith) (attacker u m.0 o))
          (unanswered_passes N numbered got Fired 8 (Defending N.theory) Defends (defends_listing N numbered) Blocking Blocking 4 5 (omega arith) (omega arith) u m (on_fires u (attacker u m.0 o))
          (λ t defends off. off_fires t (defender u t off.0 o defends) off))

      plus_fires : Condition N.theory got true Blocking (literal_at N q) → Fired (q * 8 + 0)
      plus_fires h =
          passes 0 q (omega arith) (omega (arith, lt, names_fit)) (literal_touched 4 region.members rules 0 q (omega arith) (member q here))
          (plus_passes N numbered b definite Blocking Blocking (λ got q h. h) (λ got q h. h) got follows Fired 8 2 6 (omega arith) (omega arith) q lt h
          supported_fires answered_fires)

      minus_fires : Condition N.theory got false Blocking (literal_at N q) → Fired (q * 8 + 1)
      minus_fires h =
          passes 1 q (omega arith) (omega (arith, lt, names_fit)) (literal_touched 4 region.members rules 1 q (omega arith) (member q here))
          (minus_passes N numbered b definite Blocking Blocking (λ got q h. h) (λ got q h. h) got follows Fired 8 3 7 (omega arith) (omega arith) q lt h
          unsupported_fires unanswered_fires)

    pub saturates : (f : Family) → IsTrue (filled f) → (p : Bool) (q : ℕ) → is_inside region.members q ≡ true → q < length N.names
        → Condition N.theory got p f (literal_at N q) → Fired (q * 8 + kind f p)
    saturates Definite e p q here lt h = absurd (true≢false (sym e))
    saturates Blocking e true q here lt h = plus_fires q here lt h
    saturates Blocking e false q here lt h = minus_fires q here lt h
    saturates Propagating e p q here lt h = absurd (true≢false (sym e))
    saturates Support e p q here lt h = absurd (true≢false (sym e))

tags : (f : Family) → IsTrue (filled f) → (plus : Bool) → tag_at block_tags (kind f plus) ≡ Some (tag_of plus f)
tags Definite e plus = absurd (true≢false (sym e))
tags Blocking e true = refl
tags Blocking e false = refl
tags Propagating e plus = absurd (true≢false (sym e))
tags Support e plus = absurd (true≢false (sym e))

own : (k : ℕ) → MatchOption (tag_at block_tags k) (Unit {0}) (λ x. IsTrue (filled x.family) × (kind x.family x.plus ≡ k))
own zero = (refl, refl)
own (suc zero) = (refl, refl)
own (suc (suc k)) = tt

needed : (f g : Family) → IsTrue (filled f) → Contains (Definite ∷ []) g ⊎ IsTrue (filled g) → Contains (needs f) g
needed Definite g e h = absurd (true≢false (sym e))
needed Blocking g e (inl m) = subst (Contains (needs Blocking)) (sym (only Definite g m)) (0, omega arith, refl)
needed Blocking Definite e (inr h) = (0, omega arith, refl)
needed Blocking Blocking e (inr h) = (1, omega arith, refl)
needed Blocking Propagating e (inr h) = absurd (true≢false (sym h))
needed Blocking Support e (inr h) = absurd (true≢false (sym h))
needed Propagating g e h = absurd (true≢false (sym e))
needed Support g e h = absurd (true≢false (sym e))

pub block_sound : IsSound block_table block_gate
block_sound =
    sound block_table part block_gate
    (record {
      table = table_tested 8 4 block_wires (omega arith) (omega arith) refl refl;
      few = omega arith;
      bodies = refl;
      tags = tags;
      own = own;
      needed = needed;
      apart = λ f m. ap filled (only Definite f m);
      base = inr (0, omega arith, refl);
      keeps = λ N numbered m region right got outer.
          concluded N numbered m region (right Definite (0, omega arith, refl)) got (outer Blocking refl);
      saturates = λ N numbered m region right outside rules touches places names_fit rules_fit Fired passes got follows fired.
          saturates N numbered m region (right Definite (0, omega arith, refl)) (outside Blocking refl) rules touches places names_fit rules_fit Fired passes got
          follows (fired Blocking refl);
    })
