-- From nodes in the order in which they fired to a derivation of what matters.
use Rattle.std.proofs.Common.{◌≡◌, ℕ, ◌+◌, ◌*◌, ◌/◌, ◌%◌, ◌<◌, ◌≤◌, Bool, true, false, Option, Some, List, [], ◌∷◌, ◌++◌, length, inl, inr, sym, subst, ap, refl, ◌∙◌, arith, append_assoc, get_or}
use Rattle.std.specs.Prelude.{All, Contains}
use Rattle.std.proofs.lemmas.List.Elements.{Contains-get_or, All-contains, All-append, All-weaker}
use Rattle.dl_base.proofs.Members.{only, Contains-mapped}
use Rattle.dl_lit.specs.declared.literal.Literal.{Literal}
use Rattle.dl_lit.specs.declared.literal.Tagged.{Tagged}
use Rattle.dl_lit.specs.declared.literal.Tag.{Tag}
use Rattle.dl_lit.specs.declared.literal.Family.{Family}
use Rattle.dl_lit.specs.declared.literal.Family.TheVariants.{Definite}
use Rattle.dl_lit.specs.Literal.{tagged}
use Rattle.dl_theory.specs.Lists.{attackers}
use Rattle.dl_theory.specs.Derivations.{Derives, Follows}
use Rattle.dl_theory.specs.Verdicts.{Back, Reaches, needs, Matters, DerivesAt}
use Rattle.dl_theory.proofs.Steps.{derives_join}
use Rattle.dl_marks.specs.Marks.{Marking, marked}
use Rattle.dl_graph.specs.Region.{Numbers, IsRegion}
use Rattle.dl_graph.specs.Counting.{times}
use Rattle.dl_graph.specs.Numbers.{NetLists, IsNumbered, number, literal_at, attackers_row, no_literal}
use Rattle.dl_fill.specs.declared.wire.Gate.{Gate}
use Rattle.dl_fill.specs.declared.basis.Basis.{Basis}
use Rattle.dl_fill.specs.declared.basis.Basis.TheVariants.{Prevailing, Failing, Sure, Unsure, Nothing}
use Rattle.dl_fill.specs.Before.{Before, before_of, is_inside, tag_of, IsExact}
use Rattle.dl_fill.specs.Families.{FamilyTable, IsFilledBy, IsSound}
use Rattle.dl_fill.specs.Passing.{IsOrdered}
use Rattle.dl_fill.specs.Reads.{Reads, basis_at}
use Rattle.dl_fill.specs.Filled.{either_kind}
use Rattle.dl_fill.specs.Steps.{tag_at, steps_of}
use Rattle.dl_fill.proofs.Nodes.{kind_of, place_of}
use Rattle.dl_fill.proofs.Links.{number_finds, number_inside, attacker_named}
use Rattle.dl_fill.proofs.Derived.{steps_have, steps_end}
use Rattle.dl_fill.proofs.Gating.{known}
use Rattle.dl_fill.proofs.Concluding.{fails_exact, holds_exact}
use Rattle.dl_fill.proofs.Solved.{needs_definite}
use Rattle.dl_fill.proofs.Written.{inside_decides}
use Rattle.dl_definite.specs.Definite.{definite_wires, definite_gate, definite_tags}
use Rattle.dl_definite.proofs.Definite.{definite_sound}
use Rattle.dl_derive.specs.Back.{IsBack}
use Rattle.dl_derive.specs.Wanted.{With, IsAtHand, IsSureFor}
use Rattle.dl_derive.specs.Ways.{IsWay}

-- a number past the bound is not in a region
pub not_inside : (r : Numbers) → IsRegion r → (n : ℕ) → r.bound ≤ n → is_inside r.members n ≡ false
not_inside r region n past = elim (known (is_inside r.members n)) [
  | inl e ↦
      let below = All-contains (λ k. k < r.bound) r.members n region.below ((inside_decides r.members n).0 e) in
      absurd (omega (arith, below, past))
  | inr e ↦ e
]

-- of what matters for a literal, where the marks are right in the families that one needs
module _ (N : NetLists) (numbered : IsNumbered N) (m : Marking) (q : ℕ) (lt : q < length N.names) (region : Numbers) (all : IsBack N q region) (f : Family)
    (exact : (g : Family) → Contains (needs f) g → IsExact N (before_of m region) g) where
  abbrev R : Literal → Type 0
  R = Back N.theory (literal_at N q)

  abbrev b : Before
  b = before_of m region

  abbrev inside : ℕ → Bool
  inside n = is_inside region.members n

  definite : IsExact N (before_of m region) Definite
  definite = exact Definite (needs_definite f)

  within : (n : ℕ) → is_inside region.members n ≡ true → (n < length N.names) × Back N.theory (literal_at N q) (literal_at N n)
  within n e = (all.members n).0 ((inside_decides region.members n).0 e)

  whole : (n : ℕ) → n < length N.names → Back N.theory (literal_at N q) (literal_at N n) → is_inside region.members n ≡ true
  whole n inside r = (inside_decides region.members n).1 ((all.members n).1 (inside, r))

  itself : is_inside region.members q ≡ true
  itself = whole q lt (Reaches.start (literal_at N q) refl)

  -- what the nodes of a family are read as ends with the literal's tag, where its node is the last
  ends_at : (s k : ℕ) → k < s → (tags : List (Option Tag)) (t : Tag) → tag_at tags k ≡ Some t → (before nodes : List ℕ) → nodes ≡ before ++ (q * s + k) ∷ []
      → steps_of N s tags inside nodes ≡ steps_of N s tags inside before ++ tagged t.plus t.family (literal_at N q) ∷ []
  ends_at s k small tags t tag before nodes ends =
      ap (steps_of N s tags inside) ends
      ∙ steps_end N s tags inside before (q * s + k) t
      (subst (λ (v : ℕ). is_inside region.members v ≡ true) (sym (place_of s q k small)) itself)
      (ap (tag_at tags) (kind_of s q k small) ∙ tag)
      ∙ ap (λ (v : ℕ). steps_of N s tags inside before ++ tagged t.plus t.family (literal_at N v) ∷ []) (place_of s q k small)

  -- nodes of the definite family
  abbrev Sures : List ℕ → List Tagged
  Sures nodes = steps_of N 4 definite_tags inside nodes

  sures : (nodes : List ℕ) → IsOrdered N b 4 2 definite_wires (definite_gate N b) nodes
      → Derives N.theory [] (Sures nodes) × All (Matters N.theory Definite (literal_at N q)) (Sures nodes)
  sures nodes ordered =
      definite_sound.derives N numbered m region q (λ g m. absurd (omega (arith, m.1))) (λ n. (within n, λ r. whole n r.0 r.1)) []
      (λ x m. absurd (omega (arith, m.1))) nodes ordered (λ y h lt here. tt) Definite refl

  -- behind them, those of any family, where the ones that others read are among them
  module _ (sure : List ℕ) where
    abbrev AtHand : ℕ → Type 0
    AtHand = IsAtHand N region.members sure

    abbrev Has : Bool → Literal → Type 0
    Has plus c = Contains (steps_of N 4 definite_tags inside sure) (tagged plus Definite c)

    -- what is at hand and follows was derived
    own : (plus : Bool) (n : ℕ) → is_inside region.members n ≡ true → Follows N.theory (tagged plus Definite (literal_at N n))
        → AtHand (n * 4 + either_kind 0 1 plus) → Has plus (literal_at N n)
    own plus n here follows hand =
        let fired : 0 < times (n * 4 + either_kind 0 1 plus) sure = hand plus n refl ((inside_decides region.members n).0 here) follows in
        subst (λ (v : ℕ). Has plus (literal_at N v)) (place_of 4 n (either_kind 0 1 plus) (definite_sound.kinds Definite refl plus))
        (steps_have N 4 definite_tags inside sure (n * 4 + either_kind 0 1 plus) (tag_of plus Definite) fired
        (subst (λ (v : ℕ). is_inside region.members v ≡ true) (sym (place_of 4 n (either_kind 0 1 plus) (definite_sound.kinds Definite refl plus))) here)
        (ap (tag_at definite_tags) (kind_of 4 n (either_kind 0 1 plus) (definite_sound.kinds Definite refl plus)) ∙ definite_sound.tags Definite refl plus))

    -- of what attacks a literal of the region
    attacking : (plus : Bool) (n : ℕ) → is_inside region.members n ≡ true → (c : Literal) → Contains (attackers N.theory (literal_at N n)) c
        → Follows N.theory (tagged plus Definite c) → ((c : ℕ) → Contains (attackers_row N (literal_at N n)) c → AtHand (c * 4 + either_kind 0 1 plus)) → Has plus c
    attacking plus n here c a follows hand =
        let w = within n here in
        let there : Contains N.names c = attacker_named N numbered (literal_at N n) c (Contains-get_or N.names n no_literal w.0) a in
        let e : literal_at N (number N c) ≡ c = number_finds N numbered c there in
        let r : Back N.theory (literal_at N q) c = Reaches.step (literal_at N n) c w.1 (inl a) in
        let in_region : is_inside region.members (number N c) ≡ true = whole (number N c) (number_inside N numbered c there) (subst R (sym e) r) in
        subst (Has plus) e
        (own plus (number N c) in_region (subst (λ (x : Literal). Follows N.theory (tagged plus Definite x)) (sym e) follows)
        (hand (number N c) (Contains-mapped (number N) (attackers N.theory (literal_at N n)) c a)))

    reads_at : (basis : Basis) (n : ℕ) → (is_inside region.members n ≡ true → With N (marked m) AtHand basis n) → Reads N b Has n basis
    reads_at Prevailing n hand = λ n_lt here.
        let w = hand here in
        record {
          sure = λ e. own true n here ((definite true n n_lt).0 e) (w.sure e);
          fails = λ e f k d inside.
              attacking false n here (get_or (attackers N.theory (literal_at N n)) k d) (Contains-get_or (attackers N.theory (literal_at N n)) k d inside)
              ((fails_exact N numbered b definite n n_lt).0 f k d inside) (w.fails e);
        }
    reads_at Failing n hand = λ n_lt here.
        let w = hand here in
        record {
          unsure = λ e. own false n here ((definite false n n_lt).0 e) w.unsure;
          holds = λ e.
              let h = (holds_exact N numbered b definite n n_lt).0 e in
              (h.0, h.1, h.2, h.3, attacking true n here h.1 (h.0, h.2, h.3) h.4 (w.holds e));
        }
    reads_at Sure n hand = λ n_lt here e. own true n here ((definite true n n_lt).0 e) (hand here e)
    reads_at Unsure n hand = λ n_lt here e. own false n here ((definite false n n_lt).0 e) (hand here)
    reads_at Nothing n hand = λ n_lt here. tt

    -- nodes that lead up to that of the literal, for a sign
    module _ (t : FamilyTable) (gate : NetLists → Before → ℕ → ℕ → Gate) (sound : IsSound t gate) (filled : IsFilledBy t f) (plus : Bool) (nodes : List ℕ)
        (way : IsWay t gate N m region (q * t.width + t.kind f plus) nodes)
        (given : IsSureFor N m region t.width t.bases nodes sure) (none : t.bases ≡ [] → sure ≡ []) where
      abbrev Steps : List ℕ → List Tagged
      Steps nodes = steps_of N t.width t.tags inside nodes

      sure_below : (x : Tagged) → Contains (Sures sure) x → Contains t.below x.family
      sure_below x h = elim sound.base [
        | inl reads_none ↦
            let never : Contains [] x = subst (λ (nodes : List ℕ). Contains (Sures nodes) x) (none reads_none) h in
            absurd (omega (arith, never.1))
        | inr below ↦
            subst (Contains t.below)
            (sym (only Definite x.family (All-contains (Matters N.theory Definite (literal_at N q)) (Sures sure) x (sures sure given.ordered).1 h).1)) below
      ]

      steps_read : Derives N.theory (Sures sure) (Steps nodes) × All (Matters N.theory f (literal_at N q)) (Steps nodes)
      steps_read =
          sound.derives N numbered m region q (λ g below. exact g (sound.needed f g filled (inl below))) (λ n. (within n, λ r. whole n r.0 r.1)) (Sures sure) sure_below
          nodes way.ordered (λ y h. reads_at (basis_at t.bases (y % t.width)) (y / t.width) (given.has y h)) f filled

      widens : (x : Tagged) → Matters N.theory Definite (literal_at N q) x → Matters N.theory f (literal_at N q) x
      widens x h = (h.0, subst (Contains (needs f)) (sym (only Definite x.family h.1)) (needs_definite f))

      pub led_derives : DerivesAt N.theory f (literal_at N q) (tagged plus f (literal_at N q))
          (steps_of N 4 definite_tags (is_inside region.members) sure ++ steps_of N t.width t.tags (is_inside region.members) nodes)
      led_derives = record {
        before = Sures sure ++ Steps way.before;
        ends =
            ap (λ (xs : List Tagged). Sures sure ++ xs)
            (ends_at t.width (t.kind f plus) (sound.kinds f filled plus) t.tags (tag_of plus f) (sound.tags f filled plus) way.before nodes way.ends)
            ∙ sym (append_assoc (Sures sure) (Steps way.before) (tagged plus f (literal_at N q) ∷ []));
        derivation = derives_join N.theory [] (Sures sure) (Steps nodes) (sures sure given.ordered).0 steps_read.0;
        matters =
            All-append (Matters N.theory f (literal_at N q)) (Sures sure) (Steps nodes)
            (All-weaker (Matters N.theory Definite (literal_at N q)) (Matters N.theory f (literal_at N q)) widens (Sures sure) (sures sure given.ordered).1)
            steps_read.1;
      }
