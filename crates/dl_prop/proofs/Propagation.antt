-- What the nodes of propagating and support mean, and that at the end of a run exactly what follows has fired.
use Rattle.std.proofs.Common.{◌≡◌, ℕ, zero, suc, ◌+◌, ◌*◌, ◌<◌, ◌≤◌, Bool, true, false, Some, List, [], ◌∷◌, length, inl, inr, sym, subst, ap, refl, arith, true≢false}
use Rattle.std.specs.Prelude.{◌⊎◌, Contains, IsTrue, MatchOption}
use Rattle.std.proofs.lemmas.Bool.{ltb-true}
use Rattle.dl_base.proofs.Members.{only}
use Rattle.dl_lit.specs.declared.literal.Tagged.{Tagged}
use Rattle.dl_lit.specs.declared.literal.Family.{Family}
use Rattle.dl_lit.specs.declared.literal.Family.TheVariants.{Definite, Blocking, Propagating, Support}
use Rattle.dl_lit.specs.Literal.{tagged}
use Rattle.dl_theory.specs.Lists.{Supports, Opposes}
use Rattle.dl_theory.specs.Conditions.{Condition}
use Rattle.dl_theory.specs.Derivations.{Follows}
use Rattle.dl_theory.specs.Verdicts.{needs}
use Rattle.dl_marks.specs.Marks.{Marking}
use Rattle.dl_graph.specs.Region.{Numbers}
use Rattle.dl_graph.specs.Counting.{times}
use Rattle.dl_graph.specs.Numbers.{NetLists, IsNumbered, HasRule, literal_at, rule_at}
use Rattle.dl_graph.proofs.Slots.{rule_within}
use Rattle.dl_graph.specs.declared.link.Link.TheVariants.{Backs, Defends, Counters}
use Rattle.dl_fill.specs.declared.wire.Gate.TheVariants.{Never}
use Rattle.dl_fill.specs.Wires.{inputs_at}
use Rattle.dl_fill.specs.Reads.{Reads, basis_at}
use Rattle.dl_fill.specs.Steps.{tag_at}
use Rattle.dl_fill.specs.Gates.{Passes}
use Rattle.dl_fill.specs.Rivals.{Defending, Countering}
use Rattle.dl_fill.specs.Before.{Before, tag_of, is_rule, is_inside, before_of, IsExact, IsExactOutside}
use Rattle.dl_fill.specs.Prepared.{is_touched_at}
use Rattle.dl_fill.specs.Touched.{Touches}
use Rattle.dl_fill.specs.Meanings.{HasTag, IsOnAt, IsOffAt, IsSupported, IsUnsupported, IsAnswered, IsUnanswered, IsAnsweredBy, IsUnansweredBy}
use Rattle.dl_fill.specs.Families.{IsSound}
use Rattle.dl_fill.proofs.Links.{backs_listing, defends_listing, counters_listing}
use Rattle.dl_fill.proofs.Gating.{IsGotOutside, open_gate, at_rule, on_sound, off_sound, on_passes, off_passes, supported_sound, supported_passes, unsupported_sound, unsupported_passes, answered_sound, answered_passes, unanswered_sound, unanswered_passes}
use Rattle.dl_fill.proofs.Concluding.{plus_sound, minus_sound, plus_passes, minus_passes}
use Rattle.dl_fill.proofs.Ruled.{concluded_sound, concluded_passes, refuted_sound, refuted_passes}
use Rattle.dl_fill.proofs.Exact.{literal_touched, rule_touched}
use Rattle.dl_fill.proofs.Attacks.{attack_meets}
use Rattle.dl_fill.proofs.Tables.{table_tested}
use Rattle.dl_fill.proofs.Touching.{supports_touched, opposes_touched}
use Rattle.dl_fill.proofs.Sound.{Means, MeansNode, Concludes, meant_at, sound}
use Rattle.dl_prop.specs.Propagation.{propagation_wires, propagation_tags, propagation_bases, propagation_gate, rule_gate, propagation_table, propagation_fills as filled, propagation_kind as kind}
use Rattle.dl_prop.proofs.Countered.{Stands, Falls, stands_for, stands_by, falls_for, falls_by, counters_opposes}

-- what a node that stands for no tag means, where `got` tells what counts as derived
abbrev pub part : NetLists → (Tagged → Type 0) → ℕ → ℕ → Type 0
part N got zero q = ⊥
part N got (suc zero) q = ⊥
part N got (suc (suc zero)) q = IsSupported N got Propagating q
part N got (suc (suc (suc zero))) q = IsUnsupported N got Propagating q
part N got (suc (suc (suc (suc zero)))) q = ⊥
part N got (suc (suc (suc (suc (suc zero))))) q = ⊥
part N got (suc (suc (suc (suc (suc (suc zero)))))) r = IsOnAt N got Propagating r
part N got (suc (suc (suc (suc (suc (suc (suc zero))))))) r = IsOffAt N got Propagating r
part N got (suc (suc (suc (suc (suc (suc (suc (suc zero)))))))) r = IsAnswered N got Propagating Support r
part N got (suc (suc (suc (suc (suc (suc (suc (suc (suc zero))))))))) r = IsUnanswered N got Propagating Support r
part N got (suc (suc (suc (suc (suc (suc (suc (suc (suc (suc zero)))))))))) r = IsOnAt N got Support r
part N got (suc (suc (suc (suc (suc (suc (suc (suc (suc (suc (suc zero))))))))))) r = IsOffAt N got Support r
part N got (suc (suc (suc (suc (suc (suc (suc (suc (suc (suc (suc (suc zero)))))))))))) r = IsUnansweredBy N got (Countering N.theory) Propagating Support r
part N got (suc (suc (suc (suc (suc (suc (suc (suc (suc (suc (suc (suc (suc zero))))))))))))) r = IsAnsweredBy N got (Countering N.theory) Propagating Support r
part N got (suc (suc (suc (suc (suc (suc (suc (suc (suc (suc (suc (suc (suc (suc _)))))))))))))) r = ⊥

module _ (N : NetLists) (numbered : IsNumbered N) (m : Marking) (region : Numbers) (definite : IsExact N (before_of m region) Definite) where
  abbrev b : Before
  b = before_of m region

  abbrev inside : ℕ → Bool
  inside q = is_inside region.members q

  -- a node whose gate is passed by nodes that have their meaning
  module _ (got : Tagged → Type 0) (outer : (f : Family) → IsTrue (filled f) → IsGotOutside N (before_of m region) f got) where
    abbrev Node : ℕ → Type 0
    Node y = MeansNode propagation_table part N region.members got y

    at : (k i : ℕ) → k < 14 → Node (i * 14 + k) → Means propagation_table part N region.members got k i
    at k i small m = meant_at propagation_table part N region.members got k i small m

    rule_concluded : (k r : ℕ) → Passes Node (at_rule N r (rule_gate N b k r)) (inputs_at N inside 14 propagation_wires (suc (suc (suc (suc (suc (suc k)))))) r)
        → part N got (suc (suc (suc (suc (suc (suc k)))))) r
    rule_concluded zero r h = on_sound N numbered b Propagating got (outer Propagating refl) Node 14 0 (omega arith) r (λ i m. (at 0 i (omega arith) m).1) h
    rule_concluded (suc zero) r h = off_sound N numbered b Propagating got (outer Propagating refl) Node 14 1 (omega arith) r (λ i m. (at 1 i (omega arith) m).1) h
    rule_concluded (suc (suc zero)) r h =
        answered_sound N numbered got Node 14 (Defending N.theory) Defends (defends_listing N numbered) Propagating Support
        11 6 (omega arith) (omega arith) r (λ i m. at 11 i (omega arith) m) (λ i m. at 6 i (omega arith) m) h
    rule_concluded (suc (suc (suc zero))) r h =
        unanswered_sound N numbered got Node 14 (Defending N.theory) Defends (defends_listing N numbered) Propagating Support
        10 7 (omega arith) (omega arith) r (λ i m. at 10 i (omega arith) m) (λ i m. at 7 i (omega arith) m) h
    rule_concluded (suc (suc (suc (suc zero)))) r h = on_sound N numbered b Support got (outer Support refl) Node 14 4 (omega arith) r (λ i m. (at 4 i (omega arith) m).1) h
    rule_concluded (suc (suc (suc (suc (suc zero))))) r h = off_sound N numbered b Support got (outer Support refl) Node 14 5 (omega arith) r (λ i m. (at 5 i (omega arith) m).1) h
    rule_concluded (suc (suc (suc (suc (suc (suc zero)))))) r h =
        unanswered_sound N numbered got Node 14 (Countering N.theory) Counters (counters_listing N numbered) Propagating Support
        10 7 (omega arith) (omega arith) r (λ i m. at 10 i (omega arith) m) (λ i m. at 7 i (omega arith) m) h
    rule_concluded (suc (suc (suc (suc (suc (suc (suc zero))))))) r h =
        answered_sound N numbered got Node 14 (Countering N.theory) Counters (counters_listing N numbered) Propagating Support
        11 6 (omega arith) (omega arith) r (λ i m. at 11 i (omega arith) m) (λ i m. at 6 i (omega arith) m) h
    rule_concluded (suc (suc (suc (suc (suc (suc (suc (suc k)))))))) r h =
        (open_gate Node (is_rule N r) Never
        (inputs_at N inside 14 propagation_wires (suc (suc (suc (suc (suc (suc (suc (suc (suc (suc (suc (suc (suc (suc k)))))))))))))) r) h).1

    pub concluded : (k i : ℕ) → (k < 6 → is_inside region.members i ≡ true)
        → Reads N (before_of m region) (λ plus c. got (tagged plus Definite c)) i (basis_at propagation_bases k)
        → Passes (MeansNode propagation_table part N region.members got) (propagation_gate N (before_of m region) k i)
        (inputs_at N (is_inside region.members) 14 propagation_wires k i)
        → Concludes propagation_table part N region.members got k i
    concluded zero q here reads h =
        let in_region : is_inside region.members q ≡ true = here (omega arith) in
        let c = plus_sound N numbered b definite Propagating Support (λ got q h. h) (λ got q h. h) got Node 14 2 8 (omega arith) (omega arith) q
        (λ lt. reads lt in_region) (λ i m. at 2 i (omega arith) m) (λ u m. at 8 u (omega arith) m) h in
        (in_region, c.0, c.1)
    concluded (suc zero) q here reads h =
        let in_region : is_inside region.members q ≡ true = here (omega arith) in
        let c = minus_sound N numbered b definite Propagating Support (λ got q h. h) (λ got q h. h) got Node 14 3 9 (omega arith) (omega arith) q
        (λ lt. reads lt in_region) (λ i m. at 3 i (omega arith) m) (λ u m. at 9 u (omega arith) m) h in
        (in_region, c.0, c.1)
    concluded (suc (suc zero)) q here reads h = supported_sound N numbered got Node 14 Propagating 6 (omega arith) q (λ i m. at 6 i (omega arith) m) h
    concluded (suc (suc (suc zero))) q here reads h = unsupported_sound N numbered got Node 14 Propagating 7 (omega arith) q (λ i m. at 7 i (omega arith) m) h
    concluded (suc (suc (suc (suc zero)))) q here reads h =
        let in_region : is_inside region.members q ≡ true = here (omega arith) in
        let c = concluded_sound N numbered got Node 14 12 (omega arith) Supports Backs (backs_listing N numbered)
        (Stands N.theory got) q (b.marked (tag_of true Definite) q) (Condition N.theory got true Support (literal_at N q))
        (λ lt e. inl (reads lt in_region e))
        (λ some. inr (stands_for N.theory got (literal_at N q) some))
        (λ i m. at 12 i (omega arith) m) h in
        (in_region, c.0, c.1)
    concluded (suc (suc (suc (suc (suc zero))))) q here reads h =
        let in_region : is_inside region.members q ≡ true = here (omega arith) in
        let c = refuted_sound N numbered got Node 14 13 (omega arith) Supports Backs (backs_listing N numbered)
        (Falls N.theory got) q (b.marked (tag_of false Definite) q) (Condition N.theory got false Support (literal_at N q))
        (λ lt e each. (reads lt in_region e, falls_for N.theory got (literal_at N q) each))
        (λ i m. at 13 i (omega arith) m) h in
        (in_region, c.0, c.1)
    concluded (suc (suc (suc (suc (suc (suc k)))))) r here reads h = rule_concluded k r h

  -- what fires, where nodes have fired that are touched and whose gates are passed
  module _ (outside : (f : Family) → IsTrue (filled f) → IsExactOutside N (before_of m region) f) (rules : List ℕ) (touches : Touches N region.members rules)
      (places : ℕ) (names_fit : length N.names ≤ places) (rules_fit : length N.rules ≤ places) (Fired : ℕ → Type 0)
      (passes : (k i : ℕ) → k < 14 → i < places → is_touched_at 6 region.members rules k i ≡ true
      → Passes Fired (propagation_gate N (before_of m region) k i) (inputs_at N (is_inside region.members) 14 propagation_wires k i) → Fired (i * 14 + k))
      (got : Tagged → Type 0) (follows : (y : Tagged) → got y → Follows N.theory y)
      (fired : (f : Family) → IsTrue (filled f) → (p : Bool) (q : ℕ) → is_inside region.members q ≡ true → HasTag N got p f q → Fired (q * 14 + kind f p)) where
    -- at a rule that is touched
    module _ (r : ℕ) (t : 0 < times r rules) where
      touched : (k : ℕ) → 6 ≤ k → is_touched_at 6 region.members rules k r ≡ true
      touched k ge = rule_touched 6 region.members rules k r ge t

      on_fires : IsOnAt N got Propagating r → Fired (r * 14 + 6)
      on_fires m =
          passes 6 r (omega arith) (omega (arith, rule_within N r m.0, rules_fit)) (touched 6 (omega arith))
          (on_passes N numbered b Propagating (outside Propagating refl) Fired 14 0 (omega arith) r got follows m (fired Propagating refl true))

      off_fires : IsOffAt N got Propagating r → Fired (r * 14 + 7)
      off_fires m =
          passes 7 r (omega arith) (omega (arith, rule_within N r m.0, rules_fit)) (touched 7 (omega arith))
          (off_passes N numbered b Propagating (outside Propagating refl) Fired 14 1 (omega arith) r got follows m (fired Propagating refl false))

      backed_fires : IsOnAt N got Support r → Fired (r * 14 + 10)
      backed_fires m =
          passes 10 r (omega arith) (omega (arith, rule_within N r m.0, rules_fit)) (touched 10 (omega arith))
          (on_passes N numbered b Support (outside Support refl) Fired 14 4 (omega arith) r got follows m (fired Support refl true))

      unbacked_fires : IsOffAt N got Support r → Fired (r * 14 + 11)
      unbacked_fires m =
          passes 11 r (omega arith) (omega (arith, rule_within N r m.0, rules_fit)) (touched 11 (omega arith))
          (off_passes N numbered b Support (outside Support refl) Fired 14 5 (omega arith) r got follows m (fired Support refl false))

    -- at a member of the region
    module _ (q : ℕ) (here : is_inside region.members q ≡ true) (lt : q < length N.names) where
      member : 0 < times q region.members
      member = ltb-true 0 (times q region.members) here

      at_member : (k : ℕ) → k < 6 → is_touched_at 6 region.members rules k q ≡ true
      at_member k small = literal_touched 6 region.members rules k q small member

      supporter : (r : ℕ) → HasRule N r → Supports (literal_at N q) (rule_at N r) → 0 < times r rules
      supporter r l h = supports_touched N numbered region.members rules touches q member lt r l h

      attacker : (u : ℕ) → HasRule N u → Opposes N.theory (literal_at N q) (rule_at N u) → 0 < times u rules
      attacker u l h = opposes_touched N numbered region.members rules touches q member lt u l h

      defender : (u t : ℕ) → HasRule N t → Opposes N.theory (literal_at N q) (rule_at N u) → Defending N.theory (rule_at N u) (rule_at N t) → 0 < times t rules
      defender u t l o d = supporter t l (attack_meets N.theory (rule_at N t).head (literal_at N q) (rule_at N u).head d.1 o, d.2)

      counterer : (r u : ℕ) → HasRule N u → Supports (literal_at N q) (rule_at N r) → Countering N.theory (rule_at N r) (rule_at N u) → 0 < times u rules
      counterer r u l s c = attacker u l (counters_opposes N.theory got (literal_at N q) (rule_at N r) (rule_at N u) s.0 c)

      supported_fires : IsSupported N got Propagating q → Fired (q * 14 + 2)
      supported_fires m =
          passes 2 q (omega arith) (omega (arith, m.0, names_fit)) (at_member 2 (omega arith))
          (supported_passes N numbered got Fired 14 Propagating 6 (omega arith) q m (λ r supports on. on_fires r (supporter r on.0 supports) on))

      unsupported_fires : IsUnsupported N got Propagating q → Fired (q * 14 + 3)
      unsupported_fires m =
          passes 3 q (omega arith) (omega (arith, m.0, names_fit)) (at_member 3 (omega arith))
          (unsupported_passes N numbered got Fired 14 Propagating 7 (omega arith) q m (λ r supports off. off_fires r (supporter r off.0 supports) off))

      answered_fires : (u : ℕ) → Opposes N.theory (literal_at N q) (rule_at N u) → IsAnswered N got Propagating Support u → Fired (u * 14 + 8)
      answered_fires u o m =
          passes 8 u (omega arith) (omega (arith, rule_within N u m.0, rules_fit)) (touched u (attacker u m.0 o) 8 (omega arith))
          (answered_passes N numbered got Fired 14 (Defending N.theory) Defends (defends_listing N numbered) Propagating Support 11 6 (omega arith) (omega arith) u m
          (unbacked_fires u (attacker u m.0 o)) (λ t defends on. on_fires t (defender u t on.0 o defends) on))

      unanswered_fires : (u : ℕ) → Opposes N.theory (literal_at N q) (rule_at N u) → IsUnanswered N got Propagating Support u → Fired (u * 14 + 9)
      unanswered_fires u o m =
          passes 9 u (omega arith) (omega (arith, rule_within N u m.0, rules_fit)) (touched u (attacker u m.0 o) 9 (omega arith))
          (unanswered_passes N numbered got Fired 14 (Defending N.theory) Defends (defends_listing N numbered) Propagating Support 10 7 (omega arith) (omega arith) u m
          (backed_fires u (attacker u m.0 o)) (λ t defends off. off_fires t (defender u t off.0 o defends) off))

      stands_fires : (r : ℕ) → Supports (literal_at N q) (rule_at N r) → IsUnansweredBy N got (Countering N.theory) Propagating Support r → Fired (r * 14 + 12)
      stands_fires r s m =
          passes 12 r (omega arith) (omega (arith, rule_within N r m.0, rules_fit)) (touched r (supporter r m.0 s) 12 (omega arith))
          (unanswered_passes N numbered got Fired 14 (Countering N.theory) Counters (counters_listing N numbered) Propagating Support 10 7 (omega arith) (omega arith) r m
          (backed_fires r (supporter r m.0 s)) (λ u counters off. off_fires u (counterer r u off.0 s counters) off))

      falls_fires : (r : ℕ) → Supports (literal_at N q) (rule_at N r) → IsAnsweredBy N got (Countering N.theory) Propagating Support r → Fired (r * 14 + 13)
      falls_fires r s m =
          passes 13 r (omega arith) (omega (arith, rule_within N r m.0, rules_fit)) (touched r (supporter r m.0 s) 13 (omega arith))
          (answered_passes N numbered got Fired 14 (Countering N.theory) Counters (counters_listing N numbered) Propagating Support 11 6 (omega arith) (omega arith) r m
          (unbacked_fires r (supporter r m.0 s)) (λ u counters on. on_fires u (counterer r u on.0 s counters) on))

    pub saturates : (f : Family) → IsTrue (filled f) → (p : Bool) (q : ℕ) → is_inside region.members q ≡ true → q < length N.names → Condition N.theory got p f (literal_at N q)
        → Fired (q * 14 + kind f p)
    saturates Definite e p q here lt h = absurd (true≢false (sym e))
    saturates Blocking e p q here lt h = absurd (true≢false (sym e))
    saturates Propagating e true q here lt h =
        passes 0 q (omega arith) (omega (arith, lt, names_fit)) (at_member q here lt 0 (omega arith))
        (plus_passes N numbered b definite Propagating Support (λ got q h. h) (λ got q h. h) got follows Fired 14 2 8 (omega arith) (omega arith) q lt h
        (supported_fires q here lt) (answered_fires q here lt))
    saturates Propagating e false q here lt h =
        passes 1 q (omega arith) (omega (arith, lt, names_fit)) (at_member q here lt 1 (omega arith))
        (minus_passes N numbered b definite Propagating Support (λ got q h. h) (λ got q h. h) got follows Fired 14 3 9 (omega arith) (omega arith) q lt h
        (unsupported_fires q here lt) (unanswered_fires q here lt))
    saturates Support e true q here lt h =
        passes 4 q (omega arith) (omega (arith, lt, names_fit)) (at_member q here lt 4 (omega arith))
        (concluded_passes N numbered got Fired 14 12 (omega arith) Supports Backs (backs_listing N numbered) (Stands N.theory got) q
        (b.marked (tag_of true Definite) q) lt
        (elim h [
          | inl surely ↦ inl ((definite true q lt).1 (follows (tagged true Definite (literal_at N q)) surely))
          | inr some ↦ inr (stands_by N.theory got (literal_at N q) some)
        ])
        (stands_fires q here lt))
    saturates Support e false q here lt h =
        passes 5 q (omega arith) (omega (arith, lt, names_fit)) (at_member q here lt 5 (omega arith))
        (refuted_passes N numbered got Fired 14 13 (omega arith) Supports Backs (backs_listing N numbered) (Falls N.theory got) q
        (b.marked (tag_of false Definite) q) lt
        ((definite false q lt).1 (follows (tagged false Definite (literal_at N q)) h.0))
        (falls_by N.theory got (literal_at N q) h.1)
        (falls_fires q here lt))

tags : (f : Family) → IsTrue (filled f) → (plus : Bool) → tag_at propagation_tags (kind f plus) ≡ Some (tag_of plus f)
tags Definite e plus = absurd (true≢false (sym e))
tags Blocking e plus = absurd (true≢false (sym e))
tags Propagating e true = refl
tags Propagating e false = refl
tags Support e true = refl
tags Support e false = refl

own : (k : ℕ) → MatchOption (tag_at propagation_tags k) (Unit {0}) (λ x. IsTrue (filled x.family) × (kind x.family x.plus ≡ k))
own zero = (refl, refl)
own (suc zero) = (refl, refl)
own (suc (suc zero)) = tt
own (suc (suc (suc zero))) = tt
own (suc (suc (suc (suc zero)))) = (refl, refl)
own (suc (suc (suc (suc (suc zero))))) = (refl, refl)
own (suc (suc (suc (suc (suc (suc k)))))) = tt

of_pair : (g : Family) → Contains (Definite ∷ []) g ⊎ IsTrue (filled g) → Contains (Definite ∷ Propagating ∷ Support ∷ []) g
of_pair g (inl m) = subst (Contains (Definite ∷ Propagating ∷ Support ∷ [])) (sym (only Definite g m)) (0, omega arith, refl)
of_pair Definite (inr h) = (0, omega arith, refl)
of_pair Blocking (inr h) = absurd (true≢false (sym h))
of_pair Propagating (inr h) = (1, omega arith, refl)
of_pair Support (inr h) = (2, omega arith, refl)

needed : (f g : Family) → IsTrue (filled f) → Contains (Definite ∷ []) g ⊎ IsTrue (filled g) → Contains (needs f) g
needed Definite g e h = absurd (true≢false (sym e))
needed Blocking g e h = absurd (true≢false (sym e))
needed Propagating g e h = of_pair g h
needed Support g e h = of_pair g h

pub propagation_sound : IsSound propagation_table propagation_gate
propagation_sound =
    sound propagation_table part propagation_gate
    (record {
      table = table_tested 14 6 propagation_wires (omega arith) (omega arith) refl refl;
      few = omega arith;
      bodies = refl;
      tags = tags;
      own = own;
      needed = needed;
      apart = λ f m. ap filled (only Definite f m);
      base = inr (0, omega arith, refl);
      keeps = λ N numbered m region right. concluded N numbered m region (right Definite (0, omega arith, refl));
      saturates = λ N numbered m region right. saturates N numbered m region (right Definite (0, omega arith, refl));
    })
